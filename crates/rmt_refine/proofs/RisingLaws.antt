-- Numbers in order, each once, depend only on which numbers there are.
use Rattle.std.proofs.Common.{◌≡◌, ℕ, ◌<◌, Bool, true, false, ◌==◌, cond, List, [], ◌∷◌, refl, sym, ◌∙◌, subst, inl, inr, tests, arith}
use Rattle.std.specs.Prelude.{AllPairs, Contains, nat_lt, ⊤}
use Rattle.std.proofs.lemmas.Bool.{ltb-true}
use Rattle.rmt_bits.specs.Counts.{in_order, with_number}
use Rattle.std.proofs.lemmas.List.Elements.{All-contains_itself, All-weaker}
use Rattle.std.proofs.lemmas.List.Kept.{AllPairs-cons}
use Rattle.rmt_bits.proofs.MemberLaws.{Contains-first, Contains-later, Contains-split}
use Rattle.rmt_bits.proofs.PairLaws.{AllPairs-none}
use Rattle.rmt_pack.proofs.SameRiseLaws.{same_rising}

none_there : {A : Type 0} (x : ℕ) → Contains [] x → A
none_there x there = absurd (let lt = there.1 in omega (arith, lt))

-- each number is below those behind it
abbrev Rises : List ℕ → Type 0
Rises [] = ⊤
Rises (n ∷ ns) = ((m : ℕ) → Contains ns m → n < m) × Rises ns

-- ---- one more number

with_member : (n : ℕ) (ms : List ℕ) (x : ℕ) → Contains (with_number n ms) x → Contains (n ∷ ms) x
with_member n [] x there = there
with_member n (m ∷ ms) x there = by (nat_lt n m) (n == m) there (with_member n ms x)
  where
    by : (b e : Bool) → Contains (cond b (n ∷ m ∷ ms) (cond e (m ∷ ms) (m ∷ with_number n ms))) x → (Contains (with_number n ms) x → Contains (n ∷ ms) x) → Contains (n ∷ m ∷ ms) x
    by true e h rest = h
    by false true h rest = Contains-later n (m ∷ ms) x h
    by false false h rest = elim (Contains-split m (with_number n ms) x h) [
      | inl same ↦ Contains-later n (m ∷ ms) x (subst (Contains (m ∷ ms)) same (Contains-first m ms))
      | inr later ↦ elim (Contains-split n ms x (rest later)) [
        | inl same ↦ subst (Contains (n ∷ m ∷ ms)) same (Contains-first n (m ∷ ms))
        | inr last ↦ Contains-later n (m ∷ ms) x (Contains-later m ms x last)
      ]
    ]

with_there : (n : ℕ) (ms : List ℕ) (x : ℕ) → Contains (n ∷ ms) x → Contains (with_number n ms) x
with_there n [] x there = there
with_there n (m ∷ ms) x there = by (nat_lt n m) (n == m) refl (with_there n ms x)
  where
    equal : (n == m) ≡ true → n ≡ m
    equal e = grind (arith, tests)

    by : (b e : Bool) → (n == m) ≡ e → (Contains (n ∷ ms) x → Contains (with_number n ms) x) → Contains (cond b (n ∷ m ∷ ms) (cond e (m ∷ ms) (m ∷ with_number n ms))) x
    by true e is rest = there
    by false true is rest = elim (Contains-split n (m ∷ ms) x there) [
      | inl same ↦ subst (Contains (m ∷ ms)) (sym (equal is) ∙ same) (Contains-first m ms)
      | inr later ↦ later
    ]
    by false false is rest = elim (Contains-split n (m ∷ ms) x there) [
      | inl same ↦ Contains-later m (with_number n ms) x (rest (subst (Contains (n ∷ ms)) same (Contains-first n ms)))
      | inr later ↦ elim (Contains-split m ms x later) [
        | inl same ↦ subst (Contains (m ∷ with_number n ms)) same (Contains-first m (with_number n ms))
        | inr last ↦ Contains-later m (with_number n ms) x (rest (Contains-later n ms x last))
      ]
    ]

with_rises : (n : ℕ) (ms : List ℕ) → Rises ms → Rises (with_number n ms)
with_rises n [] rises = ((λ m there. none_there m there), tt)
with_rises n (m ∷ ms) rises = by (nat_lt n m) refl (n == m) refl (with_rises n ms rises.1)
  where
    greater : nat_lt n m ≡ false → (n == m) ≡ false → m < n
    greater a b = grind (arith, tests)

    by : (b : Bool) → nat_lt n m ≡ b → (e : Bool) → (n == m) ≡ e → Rises (with_number n ms) → Rises (cond b (n ∷ m ∷ ms) (cond e (m ∷ ms) (m ∷ with_number n ms)))
    by true lt e is rest = (
      λ x there.
          let first = ltb-true n m lt in
          elim (Contains-split m ms x there) [
            | inl same ↦ omega (arith, first, same)
            | inr later ↦ let more = rises.0 x later in omega (arith, first, more)
          ],
      rises,
    )
    by false lt true is rest = rises
    by false lt false is rest = (
      λ x there. elim (Contains-split n ms x (with_member n ms x there)) [
        | inl same ↦ let more = greater lt is in omega (arith, more, same)
        | inr later ↦ rises.0 x later
      ],
      rest,
    )

-- ---- all numbers

order_rises : (ns : List ℕ) → Rises (in_order ns)
order_rises [] = tt
order_rises (n ∷ ns) = with_rises n (in_order ns) (order_rises ns)

-- no number comes in
pub order_member : (ns : List ℕ) (x : ℕ) → Contains (in_order ns) x → Contains ns x
order_member [] x there = there
order_member (n ∷ ns) x there = elim (Contains-split n (in_order ns) x (with_member n (in_order ns) x there)) [
  | inl same ↦ subst (Contains (n ∷ ns)) same (Contains-first n ns)
  | inr later ↦ Contains-later n ns x (order_member ns x later)
]

-- and none is lost
order_there : (ns : List ℕ) (x : ℕ) → Contains ns x → Contains (in_order ns) x
order_there [] x there = there
order_there (n ∷ ns) x there = with_there n (in_order ns) x (elim (Contains-split n ns x there) [
  | inl same ↦ subst (Contains (n ∷ in_order ns)) same (Contains-first n (in_order ns))
  | inr later ↦ Contains-later n (in_order ns) x (order_there ns x later)
])

rising_pairs : (ns : List ℕ) → Rises ns → AllPairs (λ a b. a < b) ns
rising_pairs [] rises = AllPairs-none (λ a b. a < b)
rising_pairs (n ∷ ns) rises = AllPairs-cons (λ a b. a < b) n ns (All-weaker (Contains ns) (λ m. n < m) rises.0 ns (All-contains_itself ns)) (rising_pairs ns rises.1)

pub same_order : (xs ys : List ℕ) → ((n : ℕ) → Contains xs n → Contains ys n) → ((n : ℕ) → Contains ys n → Contains xs n) → in_order xs ≡ in_order ys
same_order xs ys to from =
    same_rising (λ n. n) (in_order xs) (in_order ys) (rising_pairs (in_order xs) (order_rises xs)) (rising_pairs (in_order ys) (order_rises ys)) (λ n there. order_there ys n (to n (order_member xs n there)))
    (λ n there. order_there xs n (from n (order_member ys n there)))
