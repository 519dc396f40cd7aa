-- The fields of a text that breaks no rule: those of each header stand one after another, in the order of the text.
use Rattle.std.proofs.Common.{◌≡◌, ℕ, suc, ◌+◌, List, [], ◌∷◌, ◌++◌, Some, Option, option_map, unwrap_or, codes, length, slice_get, refl, sym, ap, ap₂, subst, ◌∙◌, append_assoc, length-append, zero-add, arith, drop}
use Rattle.std.specs.List.{flat_map, range_with_len, enumerate_from}
use Rattle.std.proofs.lemmas.List.{length-map}
use Rattle.std.proofs.lemmas.List.Concat.{flat_map-append}
use Rattle.std.proofs.lemmas.List.FromFn.{length-range_with_len}
use Rattle.std.proofs.lemmas.List.Sums.{sum_by-append}
use Rattle.std.proofs.lemmas.Option.{slice_get-map, slice_get_within}
use Rattle.std.proofs.lemmas.List.Elements.{All-map}
use Rattle.rmt_ast.proofs.WellFormedLemmas.{NumberedFrom, AllNumbered-from_items}
use Rattle.rmt_ast.specs.WellFormed.{AllNumbered, IsWidth, HasFields}
use Rattle.rmt_ast.specs.State as state
use Rattle.rmt_ast.specs.WellFormed as formed
use Rattle.rmt_bits.proofs.ListLaws.{slice_get-front, slice_get-end, drop-nil, map-nil, range-append}
use Rattle.rmt_check.specs.Parts.{Field, Header, Ident, Declared, HeaderText, Source}
use Rattle.rmt_check.specs.Names.{Known, common_fields, of_metadata, of_header, owned, printed_name, declared_fields, header_fields, metadata, fields_of}
use Rattle.rmt_check.specs.Sizes.{count_of}
use Rattle.rmt_check.specs.Meaning.{field_of, header_from, headers_from, program_of}
use Rattle.rmt_check.specs.Rules.{declared_names}
use Rattle.rmt_check.proofs.Bounds.{wide_fields}
use Rattle.rmt_check.proofs.FieldLists.{count_more, length-declared, length-header_fields, front, start_of, length-front, back}
use Rattle.rmt_check.proofs.programs.RuleLaws.{KeepsRules}

-- The fields of each header stand one after another, in the order of the text.

pub length-headers_from : (s : Source) (n : ℕ) (hs : List HeaderText) → length (headers_from s n hs) ≡ length hs
length-headers_from s n [] = refl
length-headers_from s n (h ∷ hs) = ap suc (length-headers_from s (n + 1 + length h.fields) hs)

pub numbers_in_order : (s : Source) (n : ℕ) (hs : List HeaderText) → flat_map (λ (h : Header). h.valid ∷ h.fields) (headers_from s n hs) ≡ range_with_len n (count_of hs)
numbers_in_order s n [] = refl
numbers_in_order s n (h ∷ hs) =
    let next : n + 1 + length h.fields ≡ n + suc (length h.fields) = omega arith in
    let all : suc (length h.fields) + count_of hs ≡ count_of (h ∷ hs) = omega (arith, count_more h hs) in
    ap (λ (xs : List ℕ). range_with_len n (suc (length h.fields)) ++ xs) (numbers_in_order s (n + 1 + length h.fields) hs ∙ ap (λ (b : ℕ). range_with_len b (count_of hs)) next)
    ∙ sym (range-append n (suc (length h.fields)) (count_of hs))
    ∙ ap (range_with_len n) all

-- how many numbers the headers' fields have
pub header_numbers : (s : Source) → length (formed.header_fields (program_of s)) ≡ count_of s.headers
header_numbers s = ap length (numbers_in_order s 3 s.headers) ∙ length-range_with_len 3 (count_of s.headers)

enumerate-append : {X : Type 0} (n m : ℕ) (xs ys : List X) → n + length xs ≡ m → enumerate_from n (xs ++ ys) ≡ enumerate_from n xs ++ enumerate_from m ys
enumerate-append n m [] ys e = ap (λ (k : ℕ). enumerate_from k ys) (omega arith)
enumerate-append n m (x ∷ xs) ys e = ap (λ (es : List _). (n, x) ∷ es) (enumerate-append (n + 1) m xs ys (omega arith))

module _ (s : Source) (before : List HeaderText) (h : HeaderText) (after : List HeaderText) (here : s.headers ≡ before ++ h ∷ after) where
  -- the fields of a header between those before it and those behind it
  pub split : fields_of s ≡ front before ++ (header_fields (length before, h) ++ back s (length before + 1) after)
  split =
      let headers : flat_map header_fields (enumerate_from 0 s.headers) ≡ flat_map header_fields (enumerate_from 0 before) ++ (header_fields (length before, h) ++ flat_map header_fields (enumerate_from (length before + 1) after)) =
      ap (λ hs. flat_map header_fields (enumerate_from 0 hs)) here
      ∙ ap (flat_map header_fields) (enumerate-append 0 (length before) before (h ∷ after) (zero-add (length before)))
      ∙ flat_map-append header_fields (enumerate_from 0 before) (enumerate_from (length before) (h ∷ after)) in
      ap (λ (fs : List Known). common_fields ++ fs)
      (rw headers (simp append_assoc))

  module _ (i m : ℕ) (x : Known) (is : m ≡ start_of before + i) (there : slice_get (header_fields (length before, h)) i ≡ Some x) where
    -- what stands at a number of the header's
    at_number : slice_get (fields_of s) m ≡ Some x
    at_number =
        let here : m ≡ length (front before) + i = omega (arith, length-front before) in
        ap₂ (λ (l : List Known) (n : ℕ). slice_get l n) split here
        ∙ slice_get-end (front before) (header_fields (length before, h) ++ back s (length before + 1) after) i
        ∙ slice_get-front (header_fields (length before, h)) (back s (length before + 1) after) i (slice_get_within (header_fields (length before, h)) i x there)
        ∙ there

    at_field : slice_get (program_of s).fields m ≡ Some (field_of x)
    at_field = slice_get-map field_of (fields_of s) m ∙ ap (option_map field_of) at_number

    pub width_at : state.width_of (program_of s) m ≡ x.width
    width_at = ap (λ (o : Option Field). unwrap_or (option_map (λ (f : Field). f.width) o) 0) at_field

    pub name_at : formed.name_of (program_of s) m ≡ printed_name x
    name_at = ap (λ (o : Option Field). unwrap_or (option_map (λ (f : Field). f.name) o) []) at_field

  -- one of its own fields
  pub own_at : (i : ℕ) (d : Declared) → slice_get h.fields i ≡ Some d
      → slice_get (header_fields (length before, h)) (suc i) ≡ Some (owned (of_header (length before)) h.ident.name d.ident.name d.width.value)
  own_at i d at =
      slice_get-map (λ (x : Declared). owned (of_header (length before)) h.ident.name x.ident.name x.width.value) h.fields i
      ∙ ap (option_map (λ (x : Declared). owned (of_header (length before)) h.ident.name x.ident.name x.width.value)) at

  -- the number of the next header
  pub start_next : start_of before + 1 + length h.fields ≡ start_of (before ++ h ∷ [])
  start_next = omega (arith, sum_by-append (λ (x : HeaderText). 1 + length x.fields) before (h ∷ []), count_more h [])

-- what holds of each header, by the headers before it and after it, holds of the headers in their order
pub each_header : (s : Source) (P : ℕ → Header → Type 0)
    → ((before : List HeaderText) (h : HeaderText) (after : List HeaderText) → s.headers ≡ before ++ h ∷ after → P (length before) (header_from s (start_of before) h))
    → AllNumbered P (headers_from s 3 s.headers)
each_header s P one = AllNumbered-from_items P (headers_from s 3 s.headers) (from [] s.headers refl)
  where
    from : (before hs : List HeaderText) → s.headers ≡ before ++ hs → NumberedFrom P (length before) (headers_from s (start_of before) hs)
    from before [] e = tt
    from before (h ∷ hs) e =
        let more : s.headers ≡ (before ++ h ∷ []) ++ hs = e ∙ sym (append_assoc before (h ∷ []) hs) in
        let long : length (before ++ h ∷ []) ≡ length before + 1 = length-append before (h ∷ []) in (
          one before h hs e,
          subst (λ k. NumberedFrom P k (headers_from s (start_of before + 1 + length h.fields) hs)) long
              (subst (λ n. NumberedFrom P (length (before ++ h ∷ [])) (headers_from s n hs)) (sym (start_next s before h hs e)) (from (before ++ h ∷ []) hs more)),
        )

-- The fields of a text that breaks no rule: how many they are, and how wide.

pub fields_law : (s : Source) → KeepsRules s → HasFields (program_of s)
fields_law s h =
    let numbers = header_numbers s in
    let all = length-map (fields_of s) field_of in
    let headers = length-header_fields 0 s.headers in
    let parts = length-append (flat_map header_fields (enumerate_from 0 s.headers)) (declared_fields of_metadata (codes "meta") (metadata s)) in
    let meta = length-declared of_metadata (codes "meta") (metadata s) in
    let names = length-map (metadata s) (λ (d : Declared). d.ident) in
    let few = drop-nil 256 (declared_names (metadata s)) (map-nil (λ (x : Ident). x.place) (drop 256 (declared_names (metadata s))) h.metadata_few) in
    record {
      in_port = refl;
      out_port = refl;
      drop = refl;
      in_order = numbers_in_order s 3 s.headers ∙ ap (range_with_len 3) (sym numbers);
      all_there = omega arith;
      few_metadata = omega arith;
      widths = All-map (λ (f : Field). IsWidth f.width) field_of (fields_of s) (wide_fields s h);
    }
