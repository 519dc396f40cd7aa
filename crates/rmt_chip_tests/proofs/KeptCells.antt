-- A list of chains, each with its bytes: one is taken out, or looked at.
use Rattle.std.proofs.Common.{◌≡◌, ℕ, ◌+◌, ◌<◌, List, ◌∷◌, ◌++◌, length, map, take, drop, get_or, Contains, ap, sym, ◌∙◌, arith}
use Rattle.std.proofs.lemmas.List.{drop_more, get_or-map, length-map, map-append, take-append-drop}

pub split : {A B : Type 0} (f : A → B) (xs : List A) (i : ℕ) (x : A) → i < length xs → x ≡ get_or xs i x
    → map f xs ≡ map f (take i xs) ++ f x ∷ map f (drop (i + 1) xs)
split {A} f xs i x lt is =
    ap (map f) (sym (take-append-drop i xs) ∙ ap (λ (rest : List A). take i xs ++ rest) (drop_more xs i x lt ∙ ap (λ (y : A). y ∷ drop (i + 1) xs) (sym is)))
    ∙ map-append f (take i xs) (x ∷ drop (i + 1) xs)

pub there : {A B : Type 0} (f : A → B) (xs : List A) (i : ℕ) (x : A) → i < length xs → x ≡ get_or xs i x → Contains (map f xs) (f x)
there f xs i x lt is = (i, (let len = length-map xs f in omega (arith, len, lt)), get_or-map f xs i x (f x) lt ∙ ap f (sym is))
