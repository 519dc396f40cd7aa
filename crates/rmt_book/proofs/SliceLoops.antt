-- Loops over the items of a slice, by place.
use Rattle.std.proofs.Common.{◌≡◌, ℕ, ◌+◌, ◌<◌, ◌≤◌, List, [], ◌∷◌, ◌++◌, Some, get_or, length, map, take, sym, ap, ◌∙◌, subst}
use Rattle.std.specs.Prelude.{All, slice_get}
use Rattle.std.specs.List.{flat_map}
use Rattle.std.proofs.lemmas.Grind.{flat_map-append}
use Rattle.std.proofs.lemmas.List.{append-nil, map_more, take_all}
use Rattle.std.proofs.lemmas.List.Elements.{All-more}
use Rattle.rmt_bits.proofs.ListLaws.{take-slice_get}

-- what holds of the items so far holds of the next one
pub all-more : {X : Type 0} (P : X → Type 0) (xs seen : List X) (i : ℕ) (x : X) → seen ≡ xs → i < length seen → x ≡ get_or seen i x → All P (take i xs) → P x → All P (take (i + 1) xs)
all-more P xs seen i x same lt at all one =
    let within : i < length xs = subst (λ ys. i < length ys) same lt in
    All-more P xs i x within all (subst P (at ∙ ap (λ ys. get_or ys i x) same) one)

pub flat-next : {X Y : Type 0} (f : X → List Y) (xs : List X) (i : ℕ) (x : X) → slice_get xs i ≡ Some x → flat_map f (take (i + 1) xs) ≡ flat_map f (take i xs) ++ f x
flat-next f xs i x at = ap (flat_map f) (take-slice_get xs i x at) ∙ flat_map-append f (take i xs) (x ∷ []) ∙ ap (λ ys. flat_map f (take i xs) ++ ys) (append-nil (f x))

-- what a loop has that maps each item, with the next item's
pub map-next : {X Y : Type 0} (f : X → Y) (xs : List X) (i : ℕ) (d : X) (before after : List Y) (y : Y) → i < length xs → before ≡ map f (take i xs) → after ≡ before ++ y ∷ [] → y ≡ f (get_or xs i d)
    → after ≡ map f (take (i + 1) xs)
map-next f xs i d before after y lt so_far more own =
    more ∙ ap (λ ys. ys ++ y ∷ []) so_far ∙ ap (λ z. map f (take i xs) ++ z ∷ []) own ∙ sym (map_more f xs i d lt)

-- and at its end
pub map-all : {X Y : Type 0} (f : X → Y) (xs : List X) (i : ℕ) (ys : List Y) → ys ≡ map f (take i xs) → length xs ≤ i → ys ≡ map f xs
map-all f xs i ys so_far end = so_far ∙ ap (map f) (take_all i xs end)
