-- Lists that are compared item by item.
use Rattle.std.proofs.Common.{◌≡◌, ℕ, ◌+◌, ◌<◌, ◌≤◌, List, [], ◌∷◌, ◌++◌, length, take, get_or, sym, ap, ◌∙◌}
use Rattle.std.proofs.lemmas.List.{take_all, take_more}

-- one item more is the same
pub same_more : {A : Type 0} (xs ys : List A) (i : ℕ) (d : A) → i < length xs → i < length ys → take i xs ≡ take i ys → get_or xs i d ≡ get_or ys i d
    → take (i + 1) xs ≡ take (i + 1) ys
same_more {A} xs ys i d lt lt2 so_far item =
    take_more xs i d lt ∙ ap (λ (front : List A). front ++ get_or xs i d ∷ []) so_far ∙ ap (λ (x : A). take i ys ++ x ∷ []) item ∙ sym (take_more ys i d lt2)

-- all are
pub same_all : {A : Type 0} (xs ys : List A) (i : ℕ) → length xs ≤ i → length ys ≤ i → take i xs ≡ take i ys → xs ≡ ys
same_all xs ys i le le2 so_far = sym (take_all i xs le) ∙ so_far ∙ take_all i ys le2
