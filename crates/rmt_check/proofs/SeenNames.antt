-- Names that repeat an earlier one.
use Rattle.std.proofs.Common.{◌≡◌, ℕ, ◌+◌, ◌<◌, List, [], ◌∷◌, ◌++◌, Bool, true, ◌&&◌, ◌||◌, not, cond, nat_eq, Option, map, take, length, get_or, refl, sym, ap, ap₂, ◌∙◌, arith}
use Rattle.std.specs.Borrow.{Bor}
use Rattle.std.specs.Cmp.Lexicographic.{pointwise}
use Rattle.std.specs.List.{list_any, enumerate_from, flat_map}
use Rattle.std.specs.Str.{bytes_eq}
use Rattle.std.proofs.lemmas.List.{take-map}
use Rattle.std.proofs.lemmas.List.Folds.{list_any_more}
use Rattle.rmt_bits.proofs.FunctionLaws.{bytes_eq-pointwise}
use Rattle.rmt_check.specs.Parts.{Position, Ident, FieldText, Source}
use Rattle.rmt_check.specs.Names.{Named, same_field, named}
use Rattle.rmt_check.specs.StoredFields.{named_at}
use Rattle.rmt_check.specs.Rules.{when, earliest, repeated_by, repeated, repeated_fields}
use Rattle.rmt_check.proofs.FieldCodes.{same_field-code, stored-code}

-- the place of an item of a list, with its number, that is the same as an earlier one
abbrev pub again : {X : Type 0} → (X → X → Bool) → (X → Position) → List X → ℕ × X → List Position
again same place xs x = when (list_any (same x.1) (take x.0 xs)) (place x.1)

-- by another test that answers the same
repeated_by-alike : {X : Type 0} (same other : X → X → Bool) (place : X → Position) → ((x y : X) → same x y ≡ other x y) → (xs : List X) → repeated_by same place xs ≡ repeated_by other place xs
repeated_by-alike same other place h xs = λ i. repeated_by (λ x y. h x y i) place xs

-- the items that a function gives
repeated_by-map : {X Y : Type 0} (f : X → Y) (same : Y → Y → Bool) (place : Y → Position) (xs : List X) → repeated_by same place (map f xs) ≡ repeated_by (λ x y. same (f x) (f y)) (λ x. place (f x)) xs
repeated_by-map {X} {Y} f same place all = each 0 all
  where
    any : (y : Y) (xs : List X) → list_any (same y) (map f xs) ≡ list_any (λ x. same y (f x)) xs
    any y [] = refl
    any y (x ∷ xs) = ap (λ (b : Bool). same y (f x) || b) (any y xs)

    each : (n : ℕ) (xs : List X) → flat_map (again same place (map f all)) (enumerate_from n (map f xs)) ≡ flat_map (again (λ x y. same (f x) (f y)) (λ x. place (f x)) all) (enumerate_from n xs)
    each n [] = refl
    each n (x ∷ xs) =
        ap₂ (λ (ps qs : List Position). ps ++ qs) (ap (λ (b : Bool). when b (place (f x))) (ap (list_any (same (f x))) (take-map f n all) ∙ any (f x) (take n all))) (each (n + 1) xs)

-- The step of a loop that keeps the set of the keys that it saw.
module _ {K : Type 0} (eq : K → K → Bool) (xs : List (K × Position)) (i : ℕ) (x : K × Position) (lt : i < length xs) (at : x ≡ get_or xs i x) where
  pub seen_again : (known fresh : Bool) (one : Option Position) → known ≡ list_any (λ y. eq x.0 y.0) (take i xs) → fresh ≡ not known → one ≡ earliest (when (not fresh) x.1)
      → one ≡ earliest (again (λ x y. eq x.0 y.0) (λ x. x.1) xs (i, x))
  seen_again known fresh one k f o = grind (arith, o, f, k)

  pub keys_more : ((a b : K) → eq a b ≡ eq b a) → (was is : K → Bool) → ((k : K) → was k ≡ list_any (λ y. eq k y.0) (take i xs)) → ((k : K) → is k ≡ cond (eq x.0 k) true (was k))
      → (k : K) → is k ≡ list_any (λ y. eq k y.0) (take (i + 1) xs)
  keys_more symm was is before after k = grind (arith, list_any_more (λ y. eq k y.0) xs i x lt, after k, before k, symm x.0 k, ap (λ (y : K × Position). eq k y.0) at)

-- a name that was marked with its place
abbrev pub told_ident : Bor (List ℕ) × Position → Ident
told_ident m = record { place = m.1; name = m.0.now }

-- names with their places
pub repeated_marks : (marks : List (Bor (List ℕ) × Position)) (xs : List Ident) → map told_ident marks ≡ xs → repeated_by (λ x y. pointwise nat_eq x.0.now y.0.now) (λ x. x.1) marks ≡ repeated xs
repeated_marks marks xs e =
    repeated_by-alike (λ (x y : Bor (List ℕ) × Position). pointwise nat_eq x.0.now y.0.now) (λ x y. bytes_eq x.0.now y.0.now) (λ x. x.1) (λ x y. sym (bytes_eq-pointwise x.0.now y.0.now)) marks
    ∙ sym (repeated_by-map told_ident (λ (x y : Ident). bytes_eq x.name y.name) (λ x. x.place) marks) ∙ ap repeated e

same_key : (k l : ℕ × Bor (List ℕ)) → (nat_eq k.0 l.0 && pointwise nat_eq k.1.now l.1.now) ≡ same_field (named_at k) (named_at l)
same_key k l =
    ap (λ (b : Bool). nat_eq k.0 l.0 && b) (sym (bytes_eq-pointwise k.1.now l.1.now)) ∙ ap₂ bytes_eq (stored-code k) (stored-code l) ∙ sym (same_field-code (named_at k) (named_at l))

-- keys of fields with their places
pub repeated_keys : (s : Source) (marks : List ((ℕ × Bor (List ℕ)) × Position)) (fs : List FieldText) → map {B = Named × Position} (λ m. (named_at m.0, m.1)) marks ≡ map (λ (f : FieldText). (named s f, f.place)) fs
    → repeated_by (λ x y. nat_eq x.0.0 y.0.0 && pointwise nat_eq x.0.1.now y.0.1.now) (λ x. x.1) marks ≡ repeated_fields s fs
repeated_keys s marks fs e =
    let same : Named × Position → Named × Position → Bool = λ x y. same_field x.0 y.0 in
    repeated_by-alike (λ (x y : (ℕ × Bor (List ℕ)) × Position). nat_eq x.0.0 y.0.0 && pointwise nat_eq x.0.1.now y.0.1.now) (λ x y. same_field (named_at x.0) (named_at y.0)) (λ x. x.1) (λ x y. same_key x.0 y.0) marks
    ∙ sym (repeated_by-map (λ (m : (ℕ × Bor (List ℕ)) × Position). (named_at m.0, m.1)) same (λ x. x.1) marks) ∙ ap (repeated_by same (λ x. x.1)) e
    ∙ repeated_by-map (λ (f : FieldText). (named s f, f.place)) same (λ x. x.1) fs
