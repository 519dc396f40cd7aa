-- A search by number in a list whose numbers rise.
use Rattle.std.proofs.Common.{◌≡◌, ◌≢◌, ℕ, ◌+◌, ◌<◌, ◌≤◌, List, length, take, drop, get_or, Err, sym, subst, inl, inr, tests, arith}
use Rattle.std.specs.Prelude.{All, AllPairs}
use Rattle.std.specs.Ordering.{nat_cmp, ordering_index}
use Rattle.std.specs.declared.cmp.Ordering.TheVariants.{Less, Greater}
use Rattle.std.specs.List.Sorted.{IsBinarySearchResult}
use Rattle.std.proofs.lemmas.Bool.{cases_lt, cases_order}
use Rattle.std.proofs.lemmas.List.{length-take, length-drop, get_or-take, get_or-drop}

higher : (a b x : ℕ) → a ≤ b → ordering_index (nat_cmp a x) ≤ ordering_index (nat_cmp b x)
higher a b x le = grind (arith, tests)

pub less : (a x : ℕ) → nat_cmp a x ≡ Less → a < x
less a x h = grind (arith, tests)

greater : (a x : ℕ) → nat_cmp a x ≡ Greater → x < a
greater a x h = grind (arith, tests)

module _ {X : Type 0} (number : X → ℕ) (xs : List X) (n i : ℕ) (rising : AllPairs (λ (a b : X). number a < number b) xs) where
  rising-le : (a b : ℕ) (d : X) → a ≤ b → b < length xs → number (get_or xs a d) ≤ number (get_or xs b d)
  rising-le a b d le lt = elim (cases_order a b) [
    | inl e ↦ subst (λ j. number (get_or xs a d) ≤ number (get_or xs j d)) e (omega arith)
    | inr more ↦ elim more [
      | inl low ↦ (let up = rising a b d low lt in omega (arith, up))
      | inr high ↦ absurd (omega (arith, le, high))
    ]
  ]

  -- where nothing of the number is found, what stands before the place has smaller numbers, and what stands from it on greater ones
  pub parted : IsBinarySearchResult (λ (x : X). nat_cmp (number x) n) xs (Err i) → All (λ (x : X). number x < n) (take i xs) × All (λ (x : X). n < number x) (drop i xs)
  parted h =
      let parts = h (λ a b e le inside. higher (number (get_or xs a e)) (number (get_or xs b e)) n (rising-le a b e le inside)) in (
        λ k d lt. let inside : k < i = omega (arith, lt, length-take i xs) in let within : k < length xs = omega (arith, lt, length-take i xs) in
            subst (λ (x : X). number x < n) (sym (get_or-take i xs k d inside)) (less (number (get_or xs k d)) n (parts.0 k d (omega arith) inside)),
        λ k d lt. let within : i + k < length xs = omega (arith, lt, length-drop i xs) in
            subst (λ (x : X). n < number x) (sym (get_or-drop i xs k d)) (greater (number (get_or xs (i + k) d)) n (parts.1 (i + k) d (omega arith) within)),
      )

  -- and nothing of the list has the number
  pub not_found : IsBinarySearchResult (λ (x : X). nat_cmp (number x) n) xs (Err i) → All (λ (x : X). number x ≢ n) xs
  not_found h k d lt =
      let parts = h (λ a b e le inside. higher (number (get_or xs a e)) (number (get_or xs b e)) n (rising-le a b e le inside)) in
      elim (cases_lt k i) [
        | inl low ↦ λ e. absurd (let up = less (number (get_or xs k d)) n (parts.0 k d (omega arith) low) in omega (arith, up, e))
        | inr high ↦ λ e. absurd (let up = greater (number (get_or xs k d)) n (parts.1 k d high lt) in omega (arith, up, e))
      ]
