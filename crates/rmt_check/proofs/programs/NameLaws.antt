-- Names that do not repeat, the numbers that names and fields stand for, and the numbers and tests that fit a field.
use Rattle.std.proofs.Common.{◌≡◌, ◌≢◌, ℕ, ◌+◌, ◌<◌, List, [], Bool, true, false, Some, map, slice_get, get_or, take, length, All, sym, ap, subst, ◌∙◌, ⊎_elim, arith, ◌^◌, Option, bit_and, pow_pos, option_map, unwrap_or}
use Rattle.std.specs.Prelude.{AllPairs}
use Rattle.std.specs.List.{enumerate_from, list_any}
use Rattle.std.specs.Str.{bytes_eq}
use Rattle.std.proofs.lemmas.Bool.{both_ways, cases_order, false_from_ne_true, ltb-true}
use Rattle.std.proofs.lemmas.List.{get_or-map, get_or-take, length-map, length-take}
use Rattle.std.proofs.lemmas.List.Folds.{list_any_at}
use Rattle.std.proofs.lemmas.List.FromFn.{get_or-enumerate_from, length-enumerate_from}
use Rattle.std.proofs.lemmas.Option.{same_Some, slice_get_within, get_or_from_slice_get, slice_get-map}
use Rattle.std.proofs.lemmas.Slice.Eq.{bytes_eq-Decides}
use Rattle.rmt_ast.specs.NameList.{is_known}
use Rattle.rmt_ast.specs.WellFormed.{AreDistinct, Fits, IsTest}
use Rattle.rmt_bits.proofs.ListLaws.{flat_map-nil, append-nil_left, append-nil_right}
use Rattle.rmt_bits.proofs.PairLaws.{AllPairs-map}
use Rattle.rmt_bits.proofs.FunctionLaws.{bytes_eq-same}
use Rattle.rmt_check.specs.Parts.{Position, Ident, Field, Number, ValueText, Source}
use Rattle.rmt_check.specs.Rules.{repeated, repeated_by, when, fits, too_wide, too_wide_value}
use Rattle.rmt_check.specs.Meaning.{index_of, ones, test_of, field_number, field_of, program_of}
use Rattle.rmt_check.proofs.Finding.{known_at}
use Rattle.rmt_check.proofs.programs.RuleLaws.{no_when, no_when_not}
use Rattle.std.specs.Option.{option_map_or}
use Rattle.std.specs.Int.Bits.{and_self}
use Rattle.std.proofs.lemmas.Nat.{and_le_l, and_assoc}
use Rattle.rmt_ast.specs.State as state
use Rattle.rmt_check.specs.Names.{Known, fields_of, Named, named_fields, is_field, width_at, width_of}
use Rattle.rmt_check.proofs.FieldCodes.{field_at, place_at}

abbrev pub names_of : List Ident → List (List ℕ)
names_of xs = map (λ (x : Ident). x.name) xs

-- items of which none repeats an earlier one
pub differ_by : {X : Type 0} (same : X → X → Bool) (place : X → Position) (xs : List X) → repeated_by same place xs ≡ [] → AllPairs (λ x y. same y x ≡ false) xs
differ_by same place xs e = λ i j d lt within.
    let test = λ (x : ℕ × _). when (list_any (same x.1) (take x.0 xs)) (place x.1) in
    let long = length-enumerate_from 0 xs in
    let here = flat_map-nil test (enumerate_from 0 xs) e j (0, d) (omega arith) in
    let none = no_when _ _ (subst (λ (x : ℕ × _). test x ≡ []) (get_or-enumerate_from 0 xs j (0, d) within) here) in
    let kept = length-take (0 + j) xs in
    false_from_ne_true (same (get_or xs j d) (get_or xs i d))
    (λ t. both_ways _ none (list_any_at (same (get_or xs j d)) (take (0 + j) xs) i d (omega arith) (subst (λ y. same (get_or xs j d) y ≡ true) (sym (get_or-take (0 + j) xs i d (omega arith))) t)))

pub names_differ : (xs : List Ident) → repeated xs ≡ [] → AllPairs (λ (x y : Ident). x.name ≢ y.name) xs
names_differ xs e = λ i j d lt within same.
    both_ways _ (differ_by (λ (x y : Ident). bytes_eq x.name y.name) (λ x. x.place) xs e i j d lt within) ((bytes_eq-Decides _ _).1 (sym same))

pub distinct : (xs : List Ident) → repeated xs ≡ [] → AreDistinct (names_of xs)
distinct xs e = AllPairs-map (λ x y. x ≢ y) (λ (x : Ident). x.name) xs (names_differ xs e)

-- and parts that have names
pub distinct_by : {X : Type 0} (ident : X → Ident) (xs : List X) → repeated (map ident xs) ≡ [] → AllPairs (λ x y. (ident x).name ≢ (ident y).name) xs
distinct_by ident xs e = λ i j d lt within same.
    let long = length-map xs ident in
    let at = λ (k : ℕ) (l : k < length xs). ap (λ (x : Ident). x.name) (get_or-map ident xs k d (ident d) l) in
    names_differ (map ident xs) e i j (ident d) lt (omega arith) (at i (omega arith) ∙ same ∙ sym (at j within))

-- two names of one number are equal
pub same_index : (names : List (List ℕ)) (p q : List ℕ) → is_known names p ≡ true → is_known names q ≡ true → index_of names p ≡ index_of names q → p ≡ q
same_index names p q hp hq e = same_Some p q (sym (known_at names p hp) ∙ ap (slice_get names) e ∙ known_at names q hq)

-- the numbers of known names that do not repeat
pub distinct_numbers : (names : List (List ℕ)) (xs : List Ident) → All (λ (x : Ident). is_known names x.name ≡ true) xs → repeated xs ≡ []
    → AreDistinct (map (λ (x : Ident). index_of names x.name) xs)
distinct_numbers names xs known e = AllPairs-map (λ x y. x ≢ y) (λ (x : Ident). index_of names x.name) xs
    (λ i j d lt within same. names_differ xs e i j d lt within (same_index names _ _ (known i d (omega arith)) (known j d within) same))

-- a name of a list without repeats has the number at which it stands
module _ (names : List (List ℕ)) (i : ℕ) (q : List ℕ) (at : slice_get names i ≡ Some q) where
  pub known_here : is_known names q ≡ true
  known_here =
      list_any_at (bytes_eq q) names i [] (slice_get_within names i q at)
      (subst (λ n. bytes_eq q n ≡ true) (sym (get_or_from_slice_get names i q [] at)) (bytes_eq-same q))

  pub number_here : AreDistinct names → index_of names q ≡ i
  number_here distinct =
      let here = known_at names q known_here in
      ⊎_elim (λ same. same) (⊎_elim (λ lt. absurd (apart (index_of names q) i here at lt)) (λ lt. absurd (apart i (index_of names q) at here lt))) (cases_order (index_of names q) i)
    where
      apart : (j k : ℕ) → slice_get names j ≡ Some q → slice_get names k ≡ Some q → j < k → ⊥
      apart j k ej ek lt = distinct j k [] lt (slice_get_within names k q ek) (get_or_from_slice_get names j q [] ej ∙ sym (get_or_from_slice_get names k q [] ek))

-- Tests of fields, and numbers that fit.

pub number_fits : (width : ℕ) (n : Number) → too_wide width n ≡ [] → Fits width n.value
number_fits width n e = ltb-true n.value (2 ^ width) (no_when_not (fits width n.value) n.place e)

ones_fit : (width : ℕ) → Fits width (ones width)
ones_fit width = let l : 0 < 2 ^ width = pow_pos width in omega arith

masked : (width value mask : ℕ) → value < 2 ^ width → mask < 2 ^ width → IsTest width (record { value = bit_and value mask; mask = mask })
masked width value mask v m = record {
  value_fits = let l = and_le_l value mask in omega arith;
  mask_fits = m;
  value_is_masked = and_assoc mask value mask ∙ ap (bit_and value) (and_self mask);
}

-- the test of a value whose numbers fit
pub test_law : (width : ℕ) (v : ValueText) → too_wide_value width v ≡ [] → IsTest width (test_of width v)
test_law width v e = grind (arith, masked, number_fits, ones_fit, append-nil_left, append-nil_right)

-- The numbers of fields that are known.

same_width : (o : Option Known) → unwrap_or (option_map (λ (f : Field). f.width) (option_map field_of o)) 0 ≡ unwrap_or (option_map (λ (f : Known). f.width) o) 0
same_width o = grind arith

module _ (s : Source) (x : Named) (known : is_field s x ≡ true) where
  pub field_within : field_number s x < length (map field_of (fields_of s))
  field_within =
      let l = slice_get_within (named_fields s) (field_number s x) x (field_at s x known) in
      let n = length-map (fields_of s) (λ (f : Known). f.named) in
      let m = length-map (fields_of s) field_of in omega arith

  pub field_width : state.width_of (program_of s) (field_number s x) ≡ width_of s x
  field_width =
      ap (λ (o : Option Field). unwrap_or (option_map (λ (f : Field). f.width) o) 0) (slice_get-map field_of (fields_of s) (field_number s x))
      ∙ same_width (slice_get (fields_of s) (field_number s x))
      ∙ ap (λ (o : Option ℕ). option_map_or (width_at s) o 0) (sym (place_at s x known))

-- the numbers of known fields that do not repeat
pub distinct_fields : (s : Source) {X : Type 0} (f : X → Named) (xs : List X) → All (λ x. is_field s (f x) ≡ true) xs → AllPairs (λ x y. f x ≢ f y) xs → AreDistinct (map (λ x. field_number s (f x)) xs)
distinct_fields s f xs known differ = AllPairs-map (λ x y. x ≢ y) (λ x. field_number s (f x)) xs
    (λ i j d lt within same. differ i j d lt within
    (same_Some _ _ (sym (field_at s _ (known i d (omega arith))) ∙ ap (slice_get (named_fields s)) same ∙ field_at s _ (known j d within))))
