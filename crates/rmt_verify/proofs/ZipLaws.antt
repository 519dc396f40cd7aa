-- What holds of the items of two lists, place by place.
use Rattle.std.proofs.Common.{◌≡◌, ℕ, zero, suc, ◌+◌, ◌<◌, List, [], ◌∷◌, ◌++◌, length, take, get_or, sym, subst, arith}
use Rattle.std.specs.List.{AllZip}
use Rattle.std.proofs.lemmas.List.{take_more}
use Rattle.rmt_bits.proofs.ListLaws.{zip_push}

pub zip_more : {A B : Type 0} (R : A → B → Type 0) (xs : List A) (ys : List B) (i : ℕ) (x : A) (y : B) → i < length xs → i < length ys → x ≡ get_or xs i x → y ≡ get_or ys i y
    → AllZip R (take i xs) (take i ys) → R x y → AllZip R (take (i + 1) xs) (take (i + 1) ys)
zip_more {A} {B} R xs ys i x y lt lt2 is_x is_y so_far one =
    subst (λ (front : List A). AllZip R front (take (i + 1) ys)) (sym (take_more xs i x lt))
    (subst (λ (front : List B). AllZip R (take i xs ++ get_or xs i x ∷ []) front) (sym (take_more ys i y lt2))
    (zip_push R (take i xs) (take i ys) (get_or xs i x) (get_or ys i y) so_far (subst (λ (b : B). R (get_or xs i x) b) is_y (subst (λ (a : A). R a y) is_x one))))

zip_at_place : {A B : Type 0} (R : A → B → Type 0) (xs : List A) (ys : List B) (i : ℕ) (d : A) (e : B) → i < length xs → AllZip R xs ys → R (get_or xs i d) (get_or ys i e)
zip_at_place R [] ys i d e lt all = absurd (omega (arith, lt))
zip_at_place R (a ∷ xs) [] i d e lt all = absurd all
zip_at_place R (a ∷ xs) (b ∷ ys) zero d e lt all = all.0
zip_at_place R (a ∷ xs) (b ∷ ys) (suc i) d e lt all = zip_at_place R xs ys i d e (omega (arith, lt)) all.1

pub zip_at : {A B : Type 0} (R : A → B → Type 0) (xs : List A) (ys : List B) (i : ℕ) (x : A) (y : B) → i < length xs → x ≡ get_or xs i x → y ≡ get_or ys i y → AllZip R xs ys → R x y
zip_at {A} {B} R xs ys i x y lt is_x is_y all =
    subst (λ (a : A). R a y) (sym is_x) (subst (λ (b : B). R (get_or xs i x) b) (sym is_y) (zip_at_place R xs ys i x y lt all))
