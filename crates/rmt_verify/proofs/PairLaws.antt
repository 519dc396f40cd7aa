-- What holds of each item of a list and each later one.
use Rattle.std.proofs.Common.{◌≢◌, ℕ, ◌+◌, ◌<◌, ◌≤◌, ◌↔◌, List, [], ◌∷◌, length, take, get_or, sym, subst, ◌∙◌, arith}
use Rattle.std.specs.Prelude.{All, AllPairs, map}
use Rattle.std.proofs.lemmas.List.{take_all, take_more, length-take, get_or-take, get_or-map, get_or_default, length-map}
use Rattle.std.proofs.lemmas.List.Quantifiers.{all_pairs_push}
use Rattle.rmt_ast.specs.WellFormed.{AreDistinct}

-- one item more, of which it holds with those before
pub pairs_more : {X : Type 0} (R : X → X → Type 0) (xs : List X) (i : ℕ) (d : X) → i < length xs → AllPairs R (take i xs) → All (λ a. R a (get_or xs i d)) (take i xs) → AllPairs R (take (i + 1) xs)
pairs_more R xs i d lt so_far each = subst (AllPairs R) (sym (take_more xs i d lt)) (all_pairs_push R (take i xs) (get_or xs i d) so_far (λ k e within. each k e within))

-- of all items, then of those before one and that one
pub pairs_before : {X : Type 0} (R : X → X → Type 0) (xs : List X) (i : ℕ) (d : X) → i < length xs → AllPairs R xs → All (λ a. R a (get_or xs i d)) (take i xs)
pairs_before {X} R xs i d lt all k e within =
    let below : k < i = omega (arith, length-take i xs, within) in
    subst (λ (a : X). R a (get_or xs i d)) (sym (get_or-take i xs k e below ∙ get_or_default xs k e d (omega (arith, below, lt)))) (all k i d below lt)

pub pairs_all : {X : Type 0} (R : X → X → Type 0) (xs : List X) (i : ℕ) → length xs ≤ i → AllPairs R (take i xs) → AllPairs R xs
pairs_all R xs i le all = subst (AllPairs R) (take_all i xs le) all

-- of what items are mapped to
pub pairs_mapped : {X : Type 0} (f : X → ℕ) (xs : List X) → AllPairs (λ a b. f a ≢ f b) xs ↔ AreDistinct (map f xs)
pairs_mapped f [] = (λ all i j d lt within. absurd (omega (arith, within)), λ all i j d lt within. absurd (omega (arith, within)))
pairs_mapped {X} f (x ∷ xs) = (to, from)
  where
    to : AllPairs (λ a b. f a ≢ f b) (x ∷ xs) → AreDistinct (map f (x ∷ xs))
    to all i j d lt within e =
        let j_in : j < length (x ∷ xs) = omega (arith, within, length-map (x ∷ xs) f) in
        let i_in : i < length (x ∷ xs) = omega (arith, lt, j_in) in
        all i j x lt j_in (sym (get_or-map f (x ∷ xs) i x d i_in) ∙ e ∙ get_or-map f (x ∷ xs) j x d j_in)

    from : AreDistinct (map f (x ∷ xs)) → AllPairs (λ a b. f a ≢ f b) (x ∷ xs)
    from all i j d lt within e =
        let i_in : i < length (x ∷ xs) = omega (arith, lt, within) in
        all i j 0 lt (omega (arith, within, length-map (x ∷ xs) f)) (get_or-map f (x ∷ xs) i d 0 i_in ∙ e ∙ sym (get_or-map f (x ∷ xs) j d 0 within))
