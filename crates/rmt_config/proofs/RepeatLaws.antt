-- Of numbers only those that may stand twice need to be told apart.
use Rattle.std.proofs.Common.{◌≡◌, ℕ, suc, ◌+◌, ◌<◌, List, [], ◌∷◌, length, get_or, Bool, true, false, not, cond, ◌&&◌, eqb, refl, sym, ap, ◌∙◌, subst, arith, inl, inr}
use Rattle.std.specs.List.{All, Contains, filter, list_any}
use Rattle.std.proofs.lemmas.Bool.{cases_Bool, cases_lt, eqb-true, false≢true, or_cases}
use Rattle.std.proofs.lemmas.List.Elements.{All-contains}
use Rattle.std.proofs.lemmas.Map.Views.{any-filter_same}
use Rattle.rmt_config.specs.Marks.{RepeatsAreIn}
use Rattle.rmt_config.specs.Order.{are_new}

module _ (kept : ℕ → Bool) where
  -- a number more, before the rest
  front : (seen : List ℕ) (n : ℕ) (ns : List ℕ) → (list_any (λ m. eqb m n) seen ≡ true → kept n ≡ true)
      → are_new (filter kept (n ∷ seen)) (filter kept ns) ≡ are_new (n ∷ seen) ns → (b : Bool) → kept n ≡ b
      → are_new (filter kept seen) (filter kept (n ∷ ns)) ≡ are_new seen (n ∷ ns)
  front seen n ns repeats rest true is =
      ap (λ b. are_new (filter kept seen) (cond b (n ∷ filter kept ns) (filter kept ns))) is
      ∙ ap (λ b. not b && are_new (n ∷ filter kept seen) (filter kept ns)) (any-filter_same (λ m. eqb m n) kept true (λ m e. ap kept (eqb-true m n e) ∙ is) seen)
      ∙ ap (λ b. not (list_any (λ m. eqb m n) seen) && b)
      (sym (ap (λ b. are_new (cond b (n ∷ filter kept seen) (filter kept seen)) (filter kept ns)) is) ∙ rest)
  front seen n ns repeats rest false is =
      let none : list_any (λ m. eqb m n) seen ≡ false =
      elim (cases_Bool (list_any (λ m. eqb m n) seen)) as (λ _. list_any (λ m. eqb m n) seen ≡ false) [ inl found ↦ absurd (false≢true (sym is ∙ repeats found)) | inr missed ↦ missed ] in
      ap (λ b. are_new (filter kept seen) (cond b (n ∷ filter kept ns) (filter kept ns))) is
      ∙ sym (ap (λ b. are_new (cond b (n ∷ filter kept seen) (filter kept seen)) (filter kept ns)) is) ∙ rest
      ∙ sym (ap (λ b. not b && are_new (n ∷ seen) ns) none)

  new-upon : (seen ns : List ℕ) → ((j : ℕ) → j < length ns → list_any (λ m. eqb m (get_or ns j 0)) seen ≡ true → kept (get_or ns j 0) ≡ true)
      → ((i j : ℕ) → i < j → j < length ns → get_or ns i 0 ≡ get_or ns j 0 → kept (get_or ns j 0) ≡ true)
      → are_new (filter kept seen) (filter kept ns) ≡ are_new seen ns
  new-upon seen [] before twice = refl
  new-upon seen (n ∷ ns) before twice =
      front seen n ns (before 0 (omega arith))
      (new-upon (n ∷ seen) ns
      (λ j lt e. elim (or_cases (eqb n (get_or ns j 0)) (list_any (λ m. eqb m (get_or ns j 0)) seen) e) as (λ _. kept (get_or ns j 0) ≡ true) [
        | inl same ↦ twice 0 (suc j) (omega arith) (omega (arith, lt)) (eqb-true n (get_or ns j 0) same)
        | inr earlier ↦ before (suc j) (omega (arith, lt)) earlier
      ])
      (λ i j less lt e. twice (suc i) (suc j) (omega (arith, less)) (omega (arith, lt)) e)) (kept n) refl

-- where each number that stands twice is kept, those that are kept are new one after another just where all are
pub new-kept : (kept : ℕ → Bool) (others ns : List ℕ) → RepeatsAreIn others ns → All (λ n. kept n ≡ true) others → are_new [] (filter kept ns) ≡ are_new [] ns
new-kept kept others ns repeats all =
    new-upon kept [] ns (λ j lt e. absurd (false≢true e)) (λ i j less lt e. All-contains (λ n. kept n ≡ true) others (get_or ns j 0) all (repeats i j less lt e))

-- a number more, in the list of those that stand twice
pub repeats-more : (ns others more : List ℕ) (i : ℕ) → ((x : ℕ) → Contains others x → Contains more x)
    → ((k : ℕ) → k < i → get_or ns k 0 ≡ get_or ns i 0 → Contains more (get_or ns i 0))
    → ((a b : ℕ) → a < b → b < i → get_or ns a 0 ≡ get_or ns b 0 → Contains others (get_or ns b 0))
    → (a b : ℕ) → a < b → b < i + 1 → get_or ns a 0 ≡ get_or ns b 0 → Contains more (get_or ns b 0)
repeats-more ns others more i keeps here before a b less lt e =
    elim (cases_lt b i) as (λ _. Contains more (get_or ns b 0)) [
      | inl low ↦ keeps (get_or ns b 0) (before a b less low e)
      | inr high ↦
          let same : i ≡ b = omega (arith, high, lt) in
          subst (λ k. Contains more (get_or ns k 0)) same (here a (omega (arith, less, same)) (e ∙ ap (λ k. get_or ns k 0) (sym same)))
    ]
