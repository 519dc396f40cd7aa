-- What holds of each item of a list and each later one.
use Rattle.std.proofs.Common.{ℕ, zero, suc, ◌+◌, ◌<◌, List, [], ◌∷◌, ◌++◌, map, length, get_or, sym, subst, arith}
use Rattle.std.specs.Prelude.{All, AllPairs}
use Rattle.std.specs.List.{range_with_len}
use Rattle.std.proofs.lemmas.List.{get_or-map, length-map}
use Rattle.std.proofs.lemmas.List.Elements.{All-append, All-cons, All-head, All-nil, All-tail}
use Rattle.std.proofs.lemmas.List.Kept.{AllPairs-cons}
use Rattle.rmt_bits.proofs.AllLaws.{All-between, All-left, All-right}

pub AllPairs-none : {X : Type 0} (R : X → X → Type 0) → AllPairs R []
AllPairs-none R i j d below within = absurd (omega (arith, within))

pub AllPairs-head : {X : Type 0} (R : X → X → Type 0) (x : X) (xs : List X) → AllPairs R (x ∷ xs) → All (R x) xs
AllPairs-head R x xs pairs k d lt = pairs 0 (suc k) d (omega arith) (omega (arith, lt))

pub AllPairs-tail : {X : Type 0} (R : X → X → Type 0) (x : X) (xs : List X) → AllPairs R (x ∷ xs) → AllPairs R xs
AllPairs-tail R x xs pairs i j d less lt = pairs (suc i) (suc j) d (omega (arith, less)) (omega (arith, lt))

pub AllPairs-append : {X : Type 0} (R : X → X → Type 0) (xs ys : List X) → AllPairs R xs → AllPairs R ys → All (λ x. All (R x) ys) xs → AllPairs R (xs ++ ys)
AllPairs-append R [] ys front back across = back
AllPairs-append R (x ∷ xs) ys front back across =
    AllPairs-cons R x (xs ++ ys) (All-append (R x) xs ys (AllPairs-head R x xs front) (All-head (λ z. All (R z) ys) x xs across))
    (AllPairs-append R xs ys (AllPairs-tail R x xs front) back (All-tail (λ z. All (R z) ys) x xs across))

pub AllPairs-map : {X Y : Type 0} (R : Y → Y → Type 0) (f : X → Y) (xs : List X) → AllPairs (λ a b. R (f a) (f b)) xs → AllPairs R (map f xs)
AllPairs-map R f [] h i j d lt below = absurd (omega (arith, below))
AllPairs-map R f (x ∷ xs) h i j d lt below =
    let later : j < length (x ∷ xs) = subst (λ (n : ℕ). j < n) (length-map (x ∷ xs) f) below in
    let earlier : i < length (x ∷ xs) = omega arith in
    subst (λ y. R y (get_or (map f (x ∷ xs)) j d)) (sym (get_or-map f (x ∷ xs) i x d earlier))
    (subst (λ y. R (f (get_or (x ∷ xs) i x)) y) (sym (get_or-map f (x ∷ xs) j x d later)) (h i j x lt later))

-- and of the parts of an appended list
pub AllPairs-left : {X : Type 0} (R : X → X → Type 0) (xs ys : List X) → AllPairs R (xs ++ ys) → AllPairs R xs
AllPairs-left R [] ys h = λ i j d lt below. absurd (omega (arith, below))
AllPairs-left R (x ∷ xs) ys h =
    AllPairs-cons R x xs (All-left (R x) xs ys (AllPairs-head R x (xs ++ ys) h)) (AllPairs-left R xs ys (AllPairs-tail R x (xs ++ ys) h))

pub AllPairs-right : {X : Type 0} (R : X → X → Type 0) (xs ys : List X) → AllPairs R (xs ++ ys) → AllPairs R ys
AllPairs-right R [] ys h = h
AllPairs-right R (x ∷ xs) ys h = AllPairs-right R xs ys (AllPairs-tail R x (xs ++ ys) h)

pub AllPairs-across : {X : Type 0} (R : X → X → Type 0) (xs ys : List X) → AllPairs R (xs ++ ys) → All (λ x. All (R x) ys) xs
AllPairs-across R [] ys h = All-nil (λ x. All (R x) ys)
AllPairs-across R (x ∷ xs) ys h =
    All-cons (λ x. All (R x) ys) x xs (All-right (R x) xs ys (AllPairs-head R x (xs ++ ys) h)) (AllPairs-across R xs ys (AllPairs-tail R x (xs ++ ys) h))

-- what follows holds too
pub AllPairs-weaker : {X : Type 0} (R S : X → X → Type 0) → ((x y : X) → R x y → S x y) → (xs : List X) → AllPairs R xs → AllPairs S xs
AllPairs-weaker R S weak xs h i j d lt below = weak (get_or xs i d) (get_or xs j d) (h i j d lt below)

-- numbers in a row rise
pub range_rises : (a n : ℕ) → AllPairs (λ x y. x < y) (range_with_len a n)
range_rises a zero = AllPairs-none (λ x y. x < y)
range_rises a (suc n) = AllPairs-cons (λ x y. x < y) a (range_with_len (a + 1) n) (All-between (λ y. a < y) (a + 1) n (λ w le lt. omega (arith, le))) (range_rises (a + 1) n)
