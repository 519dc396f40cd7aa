-- Lists item by item beside one another.
use Rattle.std.proofs.Common.{◌≡◌, ◌⊎◌, ℕ, zero, suc, Bool, true, false, cond, List, [], ◌∷◌, length, Some, None, inl, inr, refl, ap, ◌∙◌, subst, arith}
use Rattle.std.specs.Prelude.{All, find, slice_get}
use Rattle.std.specs.List.{AllZip}
use Rattle.std.proofs.lemmas.List.Elements.{All-cons, All-nil}
use Rattle.std.proofs.lemmas.Option.{none-some, same_Some}

-- the item beside one
pub zip-left : {X Y : Type 0} (R : X → Y → Type 0) (xs : List X) (ys : List Y) (i : ℕ) (x : X) → AllZip R xs ys → slice_get xs i ≡ Some x → (y : Y) × (slice_get ys i ≡ Some y) × R x y
zip-left R [] [] i x zip at = absurd (none-some x at)
zip-left R [] (y ∷ ys) i x zip at = absurd zip
zip-left R (z ∷ xs) [] i x zip at = absurd zip
zip-left R (z ∷ xs) (y ∷ ys) zero x zip at = (y, refl, subst (λ w. R w y) (same_Some z x at) zip.0)
zip-left R (z ∷ xs) (y ∷ ys) (suc i) x zip at = zip-left R xs ys i x zip.1 at

pub zip-right : {X Y : Type 0} (R : X → Y → Type 0) (xs : List X) (ys : List Y) (i : ℕ) (y : Y) → AllZip R xs ys → slice_get ys i ≡ Some y → (x : X) × (slice_get xs i ≡ Some x) × R x y
zip-right R [] [] i y zip at = absurd (none-some y at)
zip-right R [] (w ∷ ys) i y zip at = absurd zip
zip-right R (z ∷ xs) [] i y zip at = absurd zip
zip-right R (z ∷ xs) (w ∷ ys) zero y zip at = (z, refl, subst (R z) (same_Some w y at) zip.0)
zip-right R (z ∷ xs) (w ∷ ys) (suc i) y zip at = zip-right R xs ys i y zip.1 at

pub zip-length : {X Y : Type 0} (R : X → Y → Type 0) (xs : List X) (ys : List Y) → AllZip R xs ys → length xs ≡ length ys
zip-length R [] [] zip = refl
zip-length R [] (w ∷ ys) zip = absurd zip
zip-length R (z ∷ xs) [] zip = absurd zip
zip-length R (z ∷ xs) (w ∷ ys) zip = ap suc (zip-length R xs ys zip.1)

pub zip-made : {X Y : Type 0} (R : X → Y → Type 0) (xs : List X) (ys : List Y) → length xs ≡ length ys → ((i : ℕ) (x : X) (y : Y) → slice_get xs i ≡ Some x → slice_get ys i ≡ Some y → R x y) → AllZip R xs ys
zip-made R [] [] same each = tt
zip-made R [] (w ∷ ys) same each = absurd (omega (arith, same))
zip-made R (z ∷ xs) [] same each = absurd (omega (arith, same))
zip-made R (z ∷ xs) (w ∷ ys) same each = (each 0 z w refl refl, zip-made R xs ys (omega (arith, same)) (λ i x y. each (suc i) x y))

pub zip-gives : {X Y : Type 0} (R S : X → Y → Type 0) → ((x : X) (y : Y) → R x y → S x y) → (xs : List X) (ys : List Y) → AllZip R xs ys → AllZip S xs ys
zip-gives R S gives [] [] zip = tt
zip-gives R S gives [] (y ∷ ys) zip = absurd zip
zip-gives R S gives (x ∷ xs) [] zip = absurd zip
zip-gives R S gives (x ∷ xs) (y ∷ ys) zip = (gives x y zip.0, zip-gives R S gives xs ys zip.1)

-- what holds of the items of the second list
pub zip-all-right : {X Y : Type 0} (R : X → Y → Type 0) (P : Y → Type 0) → ((x : X) (y : Y) → R x y → P y) → (xs : List X) (ys : List Y) → AllZip R xs ys → All P ys
zip-all-right R P gives [] [] zip = All-nil P
zip-all-right R P gives [] (y ∷ ys) zip = absurd zip
zip-all-right R P gives (x ∷ xs) [] zip = absurd zip
zip-all-right R P gives (x ∷ xs) (y ∷ ys) zip = All-cons P y ys (gives x y zip.0) (zip-all-right R P gives xs ys zip.1)

-- the first items of two lists, side by side, that pass
pub record FoundBoth {X Y : Type 0} (R : X → Y → Type 0) (f : X → Bool) (g : Y → Bool) (xs : List X) (ys : List Y) : Type 0 where
  pub i : ℕ
  pub x : X
  pub y : Y
  pub at : slice_get xs i ≡ Some x
  pub beside : (slice_get ys i ≡ Some y) × R x y
  pub first : find f xs ≡ Some x
  pub second : find g ys ≡ Some y

pub find-both : {X Y : Type 0} (R : X → Y → Type 0) (f : X → Bool) (g : Y → Bool) → ((x : X) (y : Y) → R x y → g y ≡ f x) → (xs : List X) (ys : List Y) → AllZip R xs ys
    → ((find f xs ≡ None) × (find g ys ≡ None)) ⊎ FoundBoth R f g xs ys
find-both R f g same [] [] zip = inl (refl, refl)
find-both R f g same [] (y ∷ ys) zip = absurd zip
find-both R f g same (x ∷ xs) [] zip = absurd zip
find-both R f g same (x ∷ xs) (y ∷ ys) zip = by (f x) refl (find-both R f g same xs ys zip.1)
  where
    by : (b : Bool) → f x ≡ b → ((find f xs ≡ None) × (find g ys ≡ None)) ⊎ FoundBoth R f g xs ys
        → ((cond (f x) (Some x) (find f xs) ≡ None) × (cond (g y) (Some y) (find g ys) ≡ None)) ⊎ FoundBoth R f g (x ∷ xs) (y ∷ ys)
    by true e rest =
        inr (record {
          i = 0;
          x = x;
          y = y;
          at = refl;
          beside = (refl, zip.0);
          first = ap (λ b. cond b (Some x) (find f xs)) e;
          second = ap (λ b. cond b (Some y) (find g ys)) (same x y zip.0 ∙ e);
        })
    by false e (inl none) = inl (ap (λ b. cond b (Some x) (find f xs)) e ∙ none.0, ap (λ b. cond b (Some y) (find g ys)) (same x y zip.0 ∙ e) ∙ none.1)
    by false e (inr h) =
        inr (record {
          i = suc h.i;
          x = h.x;
          y = h.y;
          at = h.at;
          beside = h.beside;
          first = ap (λ b. cond b (Some x) (find f xs)) e ∙ h.first;
          second = ap (λ b. cond b (Some y) (find g ys)) (same x y zip.0 ∙ e) ∙ h.second;
        })
