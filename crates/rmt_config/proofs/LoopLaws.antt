-- What loops over lists add to a list, item by item.
use Rattle.std.proofs.Common.{◌≡◌, ℕ, ◌+◌, ◌<◌, ◌≤◌, List, [], ◌∷◌, ◌++◌, length, get_or, take, map, sym, ap, ◌∙◌, append_assoc}
use Rattle.std.specs.List.{flat_map}
use Rattle.std.proofs.lemmas.List.{flat_map_more, map_more, take_all, take_more}

module _ {X Y : Type 0} (from : List Y) (xs : List X) (i : ℕ) where
  -- each item adds one
  pub mapped-more : (f : X → Y) (old new : List Y) (x d : X) → i < length xs → x ≡ get_or xs i d → new ≡ old ++ f x ∷ [] → old ≡ from ++ map f (take i xs)
      → new ≡ from ++ map f (take (i + 1) xs)
  mapped-more f old new x d lt is added before =
      added ∙ ap (λ (ys : List Y). ys ++ f x ∷ []) before ∙ append_assoc from (map f (take i xs)) (f x ∷ [])
      ∙ ap (λ y. from ++ (map f (take i xs) ++ f y ∷ [])) is ∙ ap (λ (ys : List Y). from ++ ys) (sym (map_more f xs i d lt))

  pub mapped-all : (f : X → Y) (new : List Y) → length xs ≤ i → new ≡ from ++ map f (take i xs) → new ≡ from ++ map f xs
  mapped-all f new done all = all ∙ ap (λ ys. from ++ map f ys) (take_all i xs done)

  -- each item adds a list
  pub joined-more : (f : X → List Y) (old new : List Y) (x d : X) → i < length xs → x ≡ get_or xs i d → new ≡ old ++ f x → old ≡ from ++ flat_map f (take i xs)
      → new ≡ from ++ flat_map f (take (i + 1) xs)
  joined-more f old new x d lt is added before =
      added ∙ ap (λ (ys : List Y). ys ++ f x) before ∙ flat_map_more f from (take i xs) x
      ∙ ap (λ y. from ++ flat_map f (take i xs ++ y ∷ [])) is ∙ ap (λ ys. from ++ flat_map f ys) (sym (take_more xs i d lt))

  pub joined-all : (f : X → List Y) (new : List Y) → length xs ≤ i → new ≡ from ++ flat_map f (take i xs) → new ≡ from ++ flat_map f xs
  joined-all f new done all = all ∙ ap (λ ys. from ++ flat_map f ys) (take_all i xs done)

-- each number adds itself
module _ (from bs : List ℕ) (i : ℕ) where
  pub taken-more : (old new : List ℕ) (n : ℕ) → i < length bs → n ≡ get_or bs i 0 → new ≡ old ++ n ∷ [] → old ≡ from ++ take i bs → new ≡ from ++ take (i + 1) bs
  taken-more old new n lt is added before =
      added ∙ ap (λ (ns : List ℕ). ns ++ n ∷ []) before ∙ append_assoc from (take i bs) (n ∷ [])
      ∙ ap (λ m. from ++ (take i bs ++ m ∷ [])) is ∙ ap (λ (ns : List ℕ). from ++ ns) (sym (take_more bs i 0 lt))

  pub taken-all : (new : List ℕ) → length bs ≤ i → new ≡ from ++ take i bs → new ≡ from ++ bs
  taken-all new done all = all ∙ ap (λ (ns : List ℕ). from ++ ns) (take_all i bs done)
