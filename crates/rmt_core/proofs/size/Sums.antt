-- Sums over the numbers of a range: of one of them, and of the items of a list by their numbers.
use Rattle.std.proofs.Common.{◌≡◌, ℕ, zero, suc, ◌+◌, ◌<◌, ◌≤◌, ◌==◌, cond, List, [], ◌∷◌, length, slice_get, option_map, unwrap_or, refl, ap, inl, inr, ◌∙◌, arith}
use Rattle.std.specs.List.{range_with_len, sum_by}
use Rattle.std.proofs.lemmas.Bool.{cases_eq, cases_lt, eq-eqb, ne_eqb}
use Rattle.std.proofs.lemmas.List.Sums.{sum_by-cons}

-- a sum of two weights
pub sum_by-both : {X : Type 0} (f g : X → ℕ) (xs : List X) → sum_by (λ x. f x + g x) xs ≡ sum_by f xs + sum_by g xs
sum_by-both f g [] = omega arith
sum_by-both f g (x ∷ xs) =
    omega (arith, sum_by-cons (λ y. f y + g y) x xs, sum_by-cons f x xs, sum_by-cons g x xs, sum_by-both f g xs)

-- the weight of one number alone
abbrev pub only : (ℕ → ℕ) → ℕ → ℕ → ℕ
only weight m n = cond (n == m) (weight n) 0

only_here : (weight : ℕ → ℕ) (m n : ℕ) → n ≡ m → only weight m n ≡ weight m
only_here weight m n same = ap (λ b. cond b (weight n) 0) (eq-eqb n m same) ∙ ap weight same

only_there : (weight : ℕ → ℕ) (m n : ℕ) → (n ≡ m → ⊥) → only weight m n ≡ 0
only_there weight m n other = ap (λ b. cond b (weight n) 0) (ne_eqb n m other)

-- a number below a range isn't in it
none_below : (weight : ℕ → ℕ) (m least len : ℕ) → m < least → sum_by (only weight m) (range_with_len least len) ≡ 0
none_below weight m least zero lt = refl
none_below weight m least (suc len) lt =
    omega (
      arith,
      sum_by-cons (only weight m) least (range_with_len (least + 1) len),
      only_there weight m least (λ same. omega (arith, same, lt)),
      none_below weight m (least + 1) len (omega (arith, lt)),
    )

-- it stands there at most once
pub one_most : (weight : ℕ → ℕ) (m least len : ℕ) → sum_by (only weight m) (range_with_len least len) ≤ weight m
one_most weight m least zero = omega arith
one_most weight m least (suc len) =
    let all = sum_by-cons (only weight m) least (range_with_len (least + 1) len) in
    elim (cases_eq least m) as (λ _. sum_by (only weight m) (range_with_len least (suc len)) ≤ weight m) [
      | inl same ↦ omega (arith, all, only_here weight m least same, none_below weight m (least + 1) len (omega (arith, same)))
      | inr other ↦ omega (arith, all, only_there weight m least other, one_most weight m (least + 1) len)
    ]

-- and it does, where it lies in the range
pub one_least : (weight : ℕ → ℕ) (m least len : ℕ) → least ≤ m → m < least + len → weight m ≤ sum_by (only weight m) (range_with_len least len)
one_least weight m least zero low high = absurd (omega (arith, low, high))
one_least weight m least (suc len) low high =
    let all = sum_by-cons (only weight m) least (range_with_len (least + 1) len) in
    elim (cases_eq least m) as (λ _. weight m ≤ sum_by (only weight m) (range_with_len least (suc len))) [
      | inl same ↦ omega (arith, all, only_here weight m least same)
      | inr other ↦
          let above : least + 1 ≤ m = elim (cases_lt least m) [ inl lt ↦ omega (arith, lt) | inr ge ↦ absurd (other (omega (arith, low, ge))) ] in
          omega (arith, all, one_least weight m (least + 1) len above (omega (arith, high)))
    ]

later : (f : ℕ → ℕ) (least len : ℕ) → sum_by f (range_with_len (least + 1) len) ≡ sum_by (λ n. f (suc n)) (range_with_len least len)
later f least zero = refl
later f least (suc len) =
    let next : f (least + 1) ≡ f (suc least) = ap f (omega arith) in
    omega (
      arith,
      sum_by-cons f (least + 1) (range_with_len (least + 1 + 1) len),
      sum_by-cons (λ n. f (suc n)) least (range_with_len (least + 1) len),
      next,
      later f (least + 1) len,
    )

-- the weight of the item of a number, if there is one
abbrev pub weight_at : {X : Type 0} → (X → ℕ) → List X → ℕ → ℕ
weight_at f xs n = unwrap_or (option_map f (slice_get xs n)) 0

-- items by their numbers are all items
pub by_number : {X : Type 0} (f : X → ℕ) (xs : List X) → sum_by (weight_at f xs) (range_with_len 0 (length xs)) ≡ sum_by f xs
by_number f [] = refl
by_number f (x ∷ xs) =
    let first : weight_at f (x ∷ xs) 0 ≡ f x = refl in
    let rest : sum_by (λ n. weight_at f (x ∷ xs) (suc n)) (range_with_len 0 (length xs)) ≡ sum_by f xs = by_number f xs in
    omega (arith, sum_by-cons (weight_at f (x ∷ xs)) 0 (range_with_len 1 (length xs)), sum_by-cons f x xs, later (weight_at f (x ∷ xs)) 0 (length xs), first, rest)
