-- The greatest of a number and of what the items of a list give, and what is picked of them.
use Rattle.std.proofs.Common.{◌≡◌, ◌⊎◌, ℕ, ◌+◌, ◌<◌, ◌≤◌, List, [], ◌∷◌, fold, max, refl, ◌∙◌, inl, inr, arith}
use Rattle.std.specs.Prelude.{All, Contains}
use Rattle.std.proofs.Math.Nat.{max-eq_left, max-eq_right}
use Rattle.std.proofs.lemmas.Bool.{cases_lt}
use Rattle.std.proofs.lemmas.List.Elements.{All-nil, All-cons, All-head, All-tail}
use Rattle.rmt_bits.proofs.MemberLaws.{Contains-first, Contains-later}

-- neither that number nor an item gives more
pub start-le : {X : Type 0} (f : X → ℕ) (a : ℕ) (xs : List X) → a ≤ fold (λ most x. max most (f x)) a xs
start-le f a [] = omega arith
start-le f a (x ∷ xs) = omega (arith, start-le f (max a (f x)) xs)

pub items-le : {X : Type 0} (f : X → ℕ) (a : ℕ) (xs : List X) → All (λ x. f x ≤ fold (λ most y. max most (f y)) a xs) xs
items-le f a [] = All-nil (λ x. f x ≤ a)
items-le f a (x ∷ xs) =
    All-cons (λ y. f y ≤ fold (λ most z. max most (f z)) (max a (f x)) xs) x xs (omega (arith, start-le f (max a (f x)) xs)) (items-le f (max a (f x)) xs)

-- a bound that none of them passes
pub greatest-le : {X : Type 0} (f : X → ℕ) (a most : ℕ) (xs : List X) → a ≤ most → All (λ x. f x ≤ most) xs → fold (λ m x. max m (f x)) a xs ≤ most
greatest-le f a most [] first rest = first
greatest-le f a most (x ∷ xs) first rest =
    let head : f x ≤ most = All-head (λ x. f x ≤ most) x xs rest in
    greatest-le f (max a (f x)) most xs (omega arith) (All-tail (λ x. f x ≤ most) x xs rest)

-- what is picked, one of two each time, is that number or what an item gives
pub picked : {X : Type 0} (pick : ℕ → ℕ → ℕ) → ((m n : ℕ) → (pick m n ≡ m) ⊎ (pick m n ≡ n)) → (f : X → ℕ) (a : ℕ) (xs : List X)
    → (fold (λ m x. pick m (f x)) a xs ≡ a) ⊎ ((x : X) × Contains xs x × (fold (λ m x. pick m (f x)) a xs ≡ f x))
picked pick one f a [] = inl refl
picked pick one f a (x ∷ xs) = elim (picked pick one f (pick a (f x)) xs) [
  | inl first ↦ elim (one a (f x)) [
    | inl same ↦ inl (first ∙ same)
    | inr other ↦ inr (x, Contains-first x xs, first ∙ other)
  ]
  | inr later ↦ inr (later.0, Contains-later x xs later.0 later.1, later.2)
]

-- the greater of two is one of them
pub max-either : (m n : ℕ) → (max m n ≡ m) ⊎ (max m n ≡ n)
max-either m n = elim (cases_lt m n) [ inl less ↦ inr (max-eq_right (omega arith)) | inr more ↦ inl (max-eq_left more) ]

-- a next number is above those that it is for
pub fold_max : (ns : List ℕ) (a : ℕ) → (a ≤ fold (λ next n. max next (n + 1)) a ns) × All (λ n. n < fold (λ next n. max next (n + 1)) a ns) ns
fold_max [] a = (omega arith, All-nil (λ n. n < a))
fold_max (n ∷ ns) a =
    let rest = fold_max ns (max a (n + 1)) in
    let most = fold (λ next m. max next (m + 1)) (max a (n + 1)) ns in
    let le : max a (n + 1) ≤ most = rest.0 in (
      omega (arith, le),
      All-cons (λ m. m < most) n ns (omega (arith, le)) rest.1,
    )
