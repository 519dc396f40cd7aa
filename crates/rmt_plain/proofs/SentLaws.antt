-- What is sent, a header at a time.
use Rattle.std.proofs.Common.{◌≡◌, ℕ, ◌≤◌, ◌++◌, min, List, [], ◌∷◌, length, map, drop, refl, ap, ◌∙◌, append-nil, arith}
use Rattle.std.specs.List.{flat_map, zip}
use Rattle.std.proofs.lemmas.List.{length-drop}

zip-ended : {K X : Type 0} (ks : List K) (vs : List X) → min (length ks) (length vs) ≡ 0 → zip ks vs ≡ []
zip-ended [] vs h = refl
zip-ended (k ∷ ks) [] h = refl
zip-ended (k ∷ ks) (v ∷ vs) h = absurd (omega arith)

-- behind the shorter of two lists no pair is left
pub flat_map-zip-ended : {K X A : Type 0} (f : K × X → List A) (out : List A) (ks : List K) (vs : List X) (i : ℕ) → min (length ks) (length vs) ≤ i → out ++ flat_map f (zip (drop i ks) (drop i vs)) ≡ out
flat_map-zip-ended f out ks vs i h =
    let a = length-drop i ks in
    let b = length-drop i vs in
    ap (λ xs. out ++ flat_map f xs) (zip-ended (drop i ks) (drop i vs) (omega arith)) ∙ append-nil out

-- a function of each second item
pub flat_map-zip-map : {K X Y A : Type 0} (f : K → Y → List A) (g : X → Y) (ks : List K) (vs : List X)
    → flat_map (λ (x : K × X). f x.0 (g x.1)) (zip ks vs) ≡ flat_map (λ (x : K × Y). f x.0 x.1) (zip ks (map g vs))
flat_map-zip-map f g [] vs = refl
flat_map-zip-map f g (k ∷ ks) [] = refl
flat_map-zip-map f g (k ∷ ks) (v ∷ vs) = ap (λ xs. f k (g v) ++ xs) (flat_map-zip-map f g ks vs)
