-- Sums of functions.
use Rattle.std.proofs.Common.{◌≡◌, ℕ, ◌+◌, List, [], ◌∷◌, refl, arith}
use Rattle.std.specs.Prelude.{All, sum_by}
use Rattle.std.proofs.lemmas.List.Elements.{All-head, All-tail}
use Rattle.std.proofs.lemmas.List.Sums.{sum_by-cons}

pub sum_by_plus : {X : Type 0} (f g h : X → ℕ) → ((x : X) → f x ≡ g x + h x) → (xs : List X) → sum_by f xs ≡ sum_by g xs + sum_by h xs
sum_by_plus f g h plus [] = refl
sum_by_plus f g h plus (x ∷ xs) =
    let here = plus x in
    let rest = sum_by_plus f g h plus xs in
    omega (arith, sum_by-cons f x xs, sum_by-cons g x xs, sum_by-cons h x xs, here, rest)

pub sum_by_none : {X : Type 0} (f : X → ℕ) (xs : List X) → All (λ x. f x ≡ 0) xs → sum_by f xs ≡ 0
sum_by_none f [] none = refl
sum_by_none f (x ∷ xs) none =
    let here = All-head (λ y. f y ≡ 0) x xs none in
    let rest = sum_by_none f xs (All-tail (λ y. f y ≡ 0) x xs none) in
    omega (arith, sum_by-cons f x xs, here, rest)
