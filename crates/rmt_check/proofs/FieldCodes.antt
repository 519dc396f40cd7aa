-- Fields as they are named, and as they are stored.
use Rattle.std.proofs.Common.{◌≡◌, ◌∙◌, ℕ, suc, ◌+◌, List, [], ◌∷◌, Bool, true, ◌&&◌, ◌==◌, not, cond, nat_lt, is_some, Option, Some, None, option_map, map, length, slice_get, position, unwrap_or, refl, sym, ap, ap₂, arith}
use Rattle.std.specs.Borrow.{Bor}
use Rattle.std.specs.List.{position_or_len}
use Rattle.std.specs.Str.{bytes_eq}
use Rattle.std.proofs.lemmas.Bool.Decides.{nat_tests}
use Rattle.std.proofs.lemmas.List.{length-map}
use Rattle.std.proofs.lemmas.List.Quantifiers.{position-Some}
use Rattle.std.proofs.lemmas.Option.{none-some, same_Some, slice_get_read, slice_get-map}
use Rattle.std.proofs.lemmas.Slice.Eq.{bytes_eq-Decides}
use Rattle.rmt_check.specs.Parts.{Source}
use Rattle.rmt_ast.specs.NameList.{number_of}
use Rattle.rmt_check.specs.Names.{Known, fields_of, Owner, of_all, of_header, same_owner, Named, own, same_field, named_fields, field_place, is_field}
use Rattle.rmt_check.specs.Meaning.{field_number}
use Rattle.rmt_check.specs.StoredFields.{code_of, code, owner_at, named_at, stored}

same_owner-code : (a b : Owner) → same_owner a b ≡ (code_of a == code_of b)
same_owner-code a b = grind (arith, nat_tests)

pub same_field-code : (x y : Named) → same_field x y ≡ bytes_eq (code x) (code y)
same_field-code x y = ap (λ (b : Bool). b && bytes_eq x.name y.name) (same_owner-code x.owner y.owner)

-- the number of a field is that of what it is stored by
pub place-code : {X : Type 0} (f : X → Named) (x : Named) (xs : List X) → position (same_field x) (map f xs) ≡ number_of (map (λ y. code (f y)) xs) (code x)
place-code f x xs = ap₂ (λ (k n : ℕ). cond (nat_lt k n) (Some k) None) (same xs) (length-map xs f ∙ sym (length-map xs (λ y. code (f y))))
  where
    same : (ys : List _) → position_or_len (same_field x) (map f ys) ≡ position_or_len (bytes_eq (code x)) (map (λ y. code (f y)) ys)
    same [] = refl
    same (y ∷ ys) = ap₂ (λ (b : Bool) (n : ℕ). cond (not b) (1 + n) 0) (same_field-code x (f y)) (same ys)

-- what is stored tells the field
owner_is : (a b : Owner) → code_of a ≡ code_of b → a ≡ b
owner_is a b e = grind arith

pub field_is : (x y : Named) → same_field x y ≡ true → x ≡ y
field_is x y same =
    let e = (bytes_eq-Decides (code x) (code y)).0 (sym (same_field-code x y) ∙ same) in
    let owners : code_of x.owner ≡ code_of y.owner = cc in let names : x.name ≡ y.name = cc in ap₂ own (owner_is x.owner y.owner owners) names

pub field_same : (x y : Named) → x ≡ y → same_field x y ≡ true
field_same x y e = same_field-code x y ∙ (bytes_eq-Decides (code x) (code y)).1 (ap code e)

code_owner : (n : ℕ) → code_of (owner_at n) ≡ n
code_owner n = grind arith

pub stored-code : (k : ℕ × Bor (List ℕ)) → stored k ≡ code (named_at k)
stored-code k = ap (λ (n : ℕ). n ∷ k.1.now) (sym (code_owner k.0))

-- the number by which a header's fields are stored
pub owner_header : (n : ℕ) → owner_at (2 + n) ≡ of_header n
owner_header n = let e : 2 + n ≡ suc (suc n) = omega arith in ap owner_at e

pub owner_same : (n : ℕ) → same_owner (owner_at n) of_all ≡ (n == 0)
owner_same n = same_owner-code (owner_at n) of_all ∙ ap (λ (k : ℕ). k == 0) (code_owner n)

is_there : (o : Option ℕ) → is_some o ≡ true → o ≡ Some (unwrap_or o 0)
is_there o e = grind arith

named_there : (o : Option Known) (x : Named) → option_map (λ (f : Known). f.named) o ≡ Some x → (f : Known) × (o ≡ Some f) × (f.named ≡ x)
named_there (Some f) x e = (f, refl, same_Some f.named x e)
named_there None x e = absurd (none-some x e)

-- a field that is known has a number, and stands there
module _ (s : Source) (x : Named) (known : is_field s x ≡ true) where
  pub place_at : field_place s x ≡ Some (field_number s x)
  place_at = is_there (field_place s x) known

  pub field_at : slice_get (named_fields s) (field_number s x) ≡ Some x
  field_at =
      let place = position-Some (same_field x) (named_fields s) (field_number s x) x place_at in
      slice_get_read (named_fields s) (length (named_fields s)) (field_number s x) x refl place.0 (field_is x _ place.1)

  pub known_at : (f : Known) × (slice_get (fields_of s) (field_number s x) ≡ Some f) × (f.named ≡ x)
  known_at = named_there (slice_get (fields_of s) (field_number s x)) x (sym (slice_get-map (λ (f : Known). f.named) (fields_of s) (field_number s x)) ∙ field_at)
