-- The items of a list, and of a list that is made of another.
use Rattle.std.proofs.Common.{◌≡◌, ℕ, zero, suc, ◌<◌, ◌⊎◌, inl, inr, List, [], ◌∷◌, length, get_or, map, refl, subst, arith, Bool, true, sym, Some, ◌||◌, false, ◌≤◌, ◌+◌, ◌-◌, ◌∙◌, Option, None, filter_map, ap, eqb}
use Rattle.std.specs.Prelude.{Contains, filter, slice_get, ◌==◌}
use Rattle.std.proofs.lemmas.List.Elements.{All-contains, All-contains_itself, All-filter, filter_passes, Contains-append_cases, Contains-append_left, Contains-append_right}
use Rattle.rmt_bits.proofs.AllLaws.{All-unfilter}
use Rattle.rmt_bits.specs.Members.{is_among}
use Rattle.std.specs.List.{list_any, flat_map, range_with_len, cons_option}
use Rattle.std.proofs.lemmas.List.Folds.{list_any_at, Any-from_list_any, list_any-from_Any}
use Rattle.std.proofs.lemmas.Option.{get_or_from_slice_get, slice_get_within}
use Rattle.std.proofs.lemmas.Bool.{both_ways, eqb-true, eq-eqb}
use Rattle.std.proofs.lemmas.List.FromFn.{length-range_with_len, get_or-range_with_len}

pub Contains-first : {X : Type 0} (x : X) (xs : List X) → Contains (x ∷ xs) x
Contains-first x xs = (0, omega arith, refl)

pub Contains-later : {X : Type 0} (y : X) (xs : List X) (x : X) → Contains xs x → Contains (y ∷ xs) x
Contains-later y xs x h = let lt = h.1 in (suc h.0, omega (arith, lt), h.2)

split_at : {X : Type 0} (y : X) (xs : List X) (x : X) (k : ℕ) → k < length (y ∷ xs) → get_or (y ∷ xs) k x ≡ x → (y ≡ x) ⊎ Contains xs x
split_at y xs x zero lt e = inl e
split_at y xs x (suc k) lt e = inr (k, omega (arith, lt), e)

pub Contains-split : {X : Type 0} (y : X) (xs : List X) (x : X) → Contains (y ∷ xs) x → (y ≡ x) ⊎ Contains xs x
Contains-split y xs x h = split_at y xs x h.0 h.1 h.2

-- what is made of an item is an item of what is made of the list
pub Contains-map : {X Y : Type 0} (f : X → Y) (xs : List X) (x : X) → Contains xs x → Contains (map f xs) (f x)
Contains-map f [] x there = absurd (let lt = there.1 in omega (arith, lt))
Contains-map f (y ∷ ys) x there = elim (Contains-split y ys x there) [
  | inl e ↦ subst (λ z. Contains (f y ∷ map f ys) (f z)) e (Contains-first (f y) (map f ys))
  | inr later ↦ Contains-later (f y) (map f ys) (f x) (Contains-map f ys x later)
]

-- the item that another is made of
pub Contains-unmap : {X Y : Type 0} (f : X → Y) (xs : List X) (y : Y) → Contains (map f xs) y → (x : X) × Contains xs x × (f x ≡ y)
Contains-unmap f [] y there = absurd (let lt = there.1 in omega (arith, lt))
Contains-unmap f (x ∷ xs) y there = elim (Contains-split (f x) (map f xs) y there) [
  | inl e ↦ (x, Contains-first x xs, e)
  | inr later ↦ let r = Contains-unmap f xs y later in (r.0, Contains-later x xs r.0 r.1, r.2)
]

-- what a filter keeps: the items that pass its test
pub Contains-filter : {X : Type 0} (test : X → Bool) (xs : List X) (x : X) → Contains xs x → test x ≡ true → Contains (filter test xs) x
Contains-filter test xs x there passes =
    All-contains (λ y. test y ≡ true → Contains (filter test xs) y) xs x
    (All-unfilter (Contains (filter test xs)) test xs (All-contains_itself (filter test xs))) there passes

-- an item that passes a test
pub list_any-Contains : {X : Type 0} (test : X → Bool) (xs : List X) (x : X) → Contains xs x → test x ≡ true → list_any test xs ≡ true
list_any-Contains test xs x there passes = list_any_at test xs there.0 x there.1 (subst (λ y. test y ≡ true) (sym there.2) passes)

pub Contains-unfilter : {X : Type 0} (test : X → Bool) (xs : List X) (x : X) → Contains (filter test xs) x → Contains xs x × (test x ≡ true)
Contains-unfilter test xs x there = (
  All-contains (Contains xs) (filter test xs) x (All-filter test (Contains xs) xs (All-contains_itself xs)) there,
  All-contains (λ y. test y ≡ true) (filter test xs) x (filter_passes test xs) there,
)

-- the item at a place
pub Contains-item : {X : Type 0} (xs : List X) (i : ℕ) (x : X) → slice_get xs i ≡ Some x → Contains xs x
Contains-item xs i x e = (i, slice_get_within xs i x e, get_or_from_slice_get xs i x x e)

-- an item of one of several lists
pub Contains-flat_map : {X Y : Type 0} (f : X → List Y) (xs : List X) (x : X) (y : Y) → Contains xs x → Contains (f x) y → Contains (flat_map f xs) y
Contains-flat_map f [] x y there in_x = absurd (let lt = there.1 in omega (arith, lt))
Contains-flat_map f (z ∷ zs) x y there in_x = elim (Contains-split z zs x there) [
  | inl e ↦ Contains-append_left (f z) (flat_map f zs) y (subst (λ w. Contains (f w) y) (sym e) in_x)
  | inr later ↦ Contains-append_right (f z) (flat_map f zs) y (Contains-flat_map f zs x y later in_x)
]

-- the item that a member is from, and its place
pub flat_from : {X Y : Type 0} (f : X → List Y) (xs : List X) (y : Y) → Contains (flat_map f xs) y → (i : ℕ) × (x : X) × (slice_get xs i ≡ Some x) × Contains (f x) y
flat_from f [] y there = absurd (let lt = there.1 in omega (arith, lt))
flat_from f (x ∷ xs) y there = elim (Contains-append_cases (f x) (flat_map f xs) y there) [
  | inl here ↦ (0, x, refl, here)
  | inr later ↦ let r = flat_from f xs y later in (suc r.0, r.1, r.2, r.3)
]

pub from_flat_map : {X Y : Type 0} (f : X → List Y) (xs : List X) (y : Y) → Contains (flat_map f xs) y → (x : X) × Contains xs x × Contains (f x) y
from_flat_map f xs y there = let r = flat_from f xs y there in (r.1, Contains-item xs r.0 r.1 r.2, r.3)

-- a number that is among others by a test
pub Contains-from_any : (xs : List ℕ) (x : ℕ) → list_any (λ m. m == x) xs ≡ true → Contains xs x
Contains-from_any [] x e = absurd (both_ways false refl e)
Contains-from_any (y ∷ ys) x e = by (y == x) refl e (Contains-from_any ys x)
  where
    by : (b : Bool) → (y == x) ≡ b → (b || list_any (λ m. m == x) ys) ≡ true → (list_any (λ m. m == x) ys ≡ true → Contains ys x) → Contains (y ∷ ys) x
    by true is h rest = subst (Contains (y ∷ ys)) (eqb-true y x is) (Contains-first y ys)
    by false is h rest = Contains-later y ys x (rest h)

-- a list some item of which passes a test has one that does
pub any_item : {X : Type 0} (t : X → Bool) (xs : List X) → list_any t xs ≡ true → (x : X) × Contains xs x × (t x ≡ true)
any_item t xs some = let (place, item, lt, at, passes) = Any-from_list_any t xs some in (item, (place, lt, at), passes)

-- a number of a range
pub Contains-between : (start per cell : ℕ) → start ≤ cell → cell < start + per → Contains (range_with_len start per) cell
Contains-between start per cell le lt =
    let i = cell - start in
    let short : i < per = omega arith in
    let same : start + i ≡ cell = omega arith in
    (i, omega (arith, length-range_with_len start per), get_or-range_with_len start per i cell short ∙ same)

-- what is made of an item is among what is made of all
pub Contains-filter_map : {X Y : Type 0} (f : X → Option Y) (xs : List X) (x : X) (y : Y) → Contains xs x → f x ≡ Some y → Contains (filter_map f xs) y
Contains-filter_map f [] x y there e = absurd (let lt = there.1 in omega (arith, lt))
Contains-filter_map {X} {Y} f (z ∷ zs) x y there e = elim (Contains-split z zs x there) [
  | inl same ↦ subst (λ o. Contains (cons_option o (filter_map f zs)) y) (sym (ap f same ∙ e)) (Contains-first y (filter_map f zs))
  | inr later ↦ behind (f z) (Contains-filter_map f zs x y later e)
]
  where
    behind : (o : Option Y) → Contains (filter_map f zs) y → Contains (cons_option o (filter_map f zs)) y
    behind None h = h
    behind (Some w) h = Contains-later w (filter_map f zs) y h

-- and one that a list has is among its numbers
pub among-Contains : (ls : List ℕ) (o : ℕ) → Contains ls o → is_among ls o ≡ true
among-Contains ls o own = list_any-from_Any (λ l. eqb l o) ls (own.0, o, own.1, own.2, eq-eqb o o refl)
