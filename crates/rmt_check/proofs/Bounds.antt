-- The sizes of a text's parts, from the rules that it keeps.
use Rattle.std.proofs.Common.{◌≡◌, ℕ, ◌+◌, ◌*◌, ◌<◌, ◌≤◌, ◌^◌, List, [], ◌∷◌, true, not, None, Some, Option, unwrap_or, option_map, option_to_list, map, filter_map, length, drop, take, slice_get, get_or, sum, codes, All, refl, sym, ap, subst, lit≤, arith}
use Rattle.std.specs.List.{flat_map, enumerate_from}
use Rattle.std.specs.Option.{IfSome, option_map_or}
use Rattle.std.specs.Str.{bytes_eq}
use Rattle.std.proofs.lemmas.Bool.Decides.{nat_tests}
use Rattle.std.proofs.lemmas.Cmp.{nat_list_eq_equiv}
use Rattle.std.proofs.lemmas.List.{length-append, length-map}
use Rattle.std.proofs.lemmas.List.Elements.{All-head, All-tail, All-append, All-from_recursion, All-map}
use Rattle.std.proofs.lemmas.List.Quantifiers.{position-Some}
use Rattle.std.proofs.lemmas.List.Sums.{sum_by-le, sum_by_more_le, sum-map, sum_by-cons}
use Rattle.std.proofs.lemmas.Map.Made.{length-le_from_is_member, IsDistinct-from_AllPairs}
use Rattle.std.proofs.lemmas.Simd.{map-map}
use Rattle.std.proofs.lemmas.Slice.Eq.{bytes_eq-Decides}
use Rattle.rmt_ast.specs.NameList.{is_known}
use Rattle.rmt_ast.specs.WellFormed.{AreDistinct, IsWidth}
use Rattle.rmt_check.specs.Parts.{Position, Ident, Declared, TailText, HeaderText, ActionText, KeyText, TableText, NodeText, Source}
use Rattle.rmt_check.specs.Names.{Known, Named, same_field, named_fields, field_place, table_names, width_at, width_of, common_fields, owned, of_metadata, declared_fields, header_fields, metadata, fields_of, nodes_of, applied, applied_tables, ident_names, listed, listed_by}
use Rattle.rmt_check.specs.Rules.{when, places, declared_names, is_width, no_widths, bits_of, is_size, bad_table_size, bad_tail}
use Rattle.rmt_check.specs.Meaning.{index_of}
use Rattle.rmt_check.specs.Sizes.{AreNarrow, IsSized, IsSizedTable, IsSizedTail, IsSizedHeader, IsSizedKey, count_of}
use Rattle.rmt_check.proofs.FieldLists.{all_header, all_headers, back, length-declared, length-header_fields}
use Rattle.rmt_check.proofs.Finding.{known_at}
use Rattle.rmt_check.proofs.programs.NameLaws.{distinct}
use Rattle.rmt_check.proofs.programs.RuleLaws.{KeepsRules, no_when_not, tables_of, field_widths, bad_size, bad_tails}
use Rattle.rmt_bits.proofs.AllLaws.{All-find, All-slice_get}
use Rattle.rmt_bits.proofs.ListLaws.{append-nil_left, drop-nil, flat_map-nil, map-nil}

-- Widths.

width_in_range : (n : ℕ) → is_width n ≡ true → IsWidth n
width_in_range n e = grind (arith, nat_tests)

pub widths_in_range : (ds : List Declared) → no_widths ds ≡ [] → All (λ (d : Declared). IsWidth d.width.value) ds
widths_in_range ds e k d lt =
    width_in_range (get_or ds k d).width.value
    (no_when_not (is_width (get_or ds k d).width.value) (get_or ds k d).width.place (flat_map-nil (λ (x : Declared). when (not (is_width x.width.value)) x.width.place) ds e k d lt))

narrow : (ds : List Declared) → no_widths ds ≡ [] → AreNarrow ds
narrow ds e k d lt = (widths_in_range ds e k d lt).1

-- each field has a bit
count_bits : (ds : List Declared) → All (λ (d : Declared). IsWidth d.width.value) ds → length ds ≤ sum (map (λ (d : Declared). d.width.value) ds)
count_bits [] h = omega arith
count_bits (d ∷ ds) h =
    let here = (All-head (λ (x : Declared). IsWidth x.width.value) d ds h).0 in
    let rest = count_bits ds (All-tail (λ (x : Declared). IsWidth x.width.value) d ds h) in
    rw (sum-map {X = Declared}, sum_by-cons) (let rest_by = rw (sum-map {X = Declared}) at rest in omega arith)

-- Counts.

-- where nothing stands behind the first n
pub few : {X : Type 0} (n : ℕ) (place : X → Position) (xs : List X) → map place (drop n xs) ≡ [] → length xs ≤ n
few n place xs e = drop-nil n xs (map-nil place (drop n xs) e)

pub few_declared : (n : ℕ) (ds : List Declared) → places (drop n (declared_names ds)) ≡ [] → length ds ≤ n
few_declared n ds e = omega (arith, few n (λ (x : Ident). x.place) (declared_names ds) e, length-map ds (λ (d : Declared). d.ident))

length-filter_map : {X Y : Type 0} (f : X → Option Y) (xs : List X) → length (filter_map f xs) ≤ length xs
length-filter_map f [] = omega arith
length-filter_map f (x ∷ xs) = grind (arith, length-filter_map f xs)

pub size_in_range : (k : KeyText) → bad_table_size (Some k) ≡ [] → (1 ≤ k.size.value) × (k.size.value ≤ 1048576)
size_in_range k e = grind (arith, nat_tests)

key_sized : (k : Option KeyText) → bad_table_size k ≡ [] → IsSizedKey k
key_sized k e = grind (arith, nat_tests)

abbrev IsWide : Known → Type 0
IsWide f = IsWidth f.width

one_bit : IsWidth 1
one_bit = (lit≤ tt, lit≤ tt)

nine_bits : IsWidth 9
nine_bits = (lit≤ tt, lit≤ tt)

size_bits : (bits : ℕ) (p : Position) → when (not (is_size bits)) p ≡ [] → bits ≤ 512
size_bits bits p e = grind (arith, nat_tests)

module _ (s : Source) where
  tail_sized : (h : HeaderText) (o : Option TailText) → flat_map (bad_tail s h) (option_to_list o) ≡ [] → IfSome o IsSizedTail
  tail_sized h o e = grind (arith, nat_tests, append-nil_left)

  header_sized : (h : HeaderText) → field_widths h ≡ [] → bad_size h ≡ [] → bad_tails s h ≡ [] → IsSizedHeader h
  header_sized h wide size tail =
      let bits : bits_of h ≤ 512 = size_bits (bits_of h) h.ident.place size in
      let count : length h.fields ≤ bits_of h = count_bits h.fields (widths_in_range h.fields wide) in
      record { widths = narrow h.fields wide; bits = bits; few = omega arith; tail = tail_sized h h.tail tail }

module _ (s : Source) (h : KeepsRules s) where
  pub wide_fields : All IsWide (fields_of s)
  wide_fields =
      let headers = all_headers IsWide (λ (x : HeaderText). no_widths x.fields ≡ []) 0 s.headers h.fields_wide (λ k x from to wide. all_header IsWide k x one_bit (widths_in_range x.fields wide)) in
      let metas = All-map IsWide (λ (d : Declared). owned of_metadata (codes "meta") d.ident.name d.width.value) (metadata s) (widths_in_range (metadata s) h.metadata_wide) in
      All-append IsWide common_fields (back s 0 s.headers) (All-from_recursion IsWide common_fields (nine_bits, (nine_bits, (one_bit, tt))))
      (All-append IsWide (flat_map header_fields (enumerate_from 0 s.headers)) (declared_fields of_metadata (codes "meta") (metadata s)) headers metas)

  pub headers_sized : All IsSizedHeader s.headers
  headers_sized k d lt = header_sized s (get_or s.headers k d) (h.fields_wide k d lt) (h.header_size k d lt) (h.tails_fit k d lt)

  pub distinct_tables : AreDistinct (table_names s)
  distinct_tables = subst AreDistinct (map-map (λ (i : Ident). i.name) (λ (x : TableText). x.ident) s.tables) (distinct (tables_of s) h.tables_once)

  -- the tables are not more than the nodes
  few_tables : length (table_names s) ≤ length (nodes_of s)
  few_tables =
      let names : List (List ℕ) = map (λ (i : Ident). i.name) (applied_tables s) in
      let known = All-map (λ x. is_known names x ≡ true) (λ (t : TableText). t.ident.name) s.tables (λ k d lt. no_when_not (is_known names (get_or s.tables k d).ident.name) (get_or s.tables k d).ident.place (h.all_applied k d lt)) in
      let le : length (table_names s) ≤ length names =
      length-le_from_is_member nat_list_eq_equiv (table_names s) names (IsDistinct-from_AllPairs bytes_eq-Decides (table_names s) distinct_tables)
      (λ q e. All-slice_get (λ x. is_known names x ≡ true) (table_names s) (index_of (table_names s) q) q known (known_at (table_names s) q e)) in
      omega (arith, length-map (applied_tables s) (λ (i : Ident). i.name), length-filter_map (λ (n : NodeText). applied n.what) (nodes_of s))

  few_headers : length s.headers ≤ 64
  few_headers = few 64 (λ (x : HeaderText). x.ident.place) s.headers h.headers_few

  few_fields : count_of s.headers ≤ 32832
  few_fields =
      let each : All (λ (x : HeaderText). 1 + length x.fields ≤ 513) s.headers = λ k d lt. let z = headers_sized k d lt in omega (arith, z.few) in
      let all = sum_by-le (λ (x : HeaderText). 1 + length x.fields) 513 s.headers each in
      let product : length s.headers * 513 ≤ 64 * 513 = let l = few_headers in omega arith in omega arith

  pub sized : IsSized s
  sized =
      let nodes = few 128 (λ (n : NodeText). n.place) (nodes_of s) h.nodes_few in
      let actions = few 256 (λ (a : ActionText). a.ident.place) s.actions h.actions_few in
      record {
        widths = λ k d lt. (wide_fields k d lt).1;
        few_metadata = few_declared 256 (metadata s) h.metadata_few;
        headers = headers_sized;
        few_headers = omega (arith, few_headers, length-map s.headers (λ (x : HeaderText). x.ident.name));
        few_fields = few_fields;
        actions = λ k d lt.
            let a = get_or s.actions k d in
            let params = few_declared 16 a.params (h.params_few k d lt) in
            record { widths = narrow a.params (h.params_wide k d lt); few = omega (arith, length-map a.params (λ (x : Declared). x.ident.name)) };
        few_actions = omega (arith, length-map s.actions (λ (a : ActionText). a.ident.name));
        tables = λ k d lt.
            let t = get_or s.tables k d in record { size = key_sized t.key (h.table_size k d lt); few = few 14 (λ (i : Ident). i.place) (listed t) (h.listed_few k d lt) };
        few_tables = let l = few_tables in omega arith;
        few_nodes = nodes;
      }

-- Numbers and widths of names.

-- how many fields a text has
count_fields : (s : Source) → length (fields_of s) ≡ 3 + count_of s.headers + length (metadata s)
count_fields s =
    omega (
      arith,
      length-append (flat_map header_fields (enumerate_from 0 s.headers)) (declared_fields of_metadata (codes "meta") (metadata s)),
      length-header_fields 0 s.headers,
      length-declared of_metadata (codes "meta") (metadata s),
    )

pub field_small : (s : Source) (x : Named) → IsSized s → unwrap_or (field_place s x) 0 < 2 ^ 32
field_small s x h = grind (arith, position-Some (same_field x) (named_fields s), length-map (fields_of s) (λ (f : Known). f.named), count_fields s)

pub width_narrow : (s : Source) (x : Named) → IsSized s → width_of s x ≤ 128
width_narrow s x h = by (field_place s x)
  where
    at : (n : ℕ) (o : Option Known) → slice_get (fields_of s) n ≡ o → unwrap_or (option_map (λ (f : Known). f.width) o) 0 ≤ 128
    at n None e = lit≤ tt
    at n (Some f) e = All-slice_get (λ (g : Known). g.width ≤ 128) (fields_of s) n f h.widths e

    by : (o : Option ℕ) → option_map_or (width_at s) o 0 ≤ 128
    by None = lit≤ tt
    by (Some n) = at n (slice_get (fields_of s) n) refl

-- the numbers of the headers so far and of the next are few
pub numbers_few : (s : Source) (hs : List HeaderText) (i : ℕ) (h : HeaderText) → IsSized s → hs ≡ s.headers → i < length hs → h ≡ get_or hs i h → count_of (take i hs) + (1 + length h.fields) ≤ 32832
numbers_few s hs i h sized same lt is =
    let all : count_of hs ≤ 32832 = subst (λ (xs : List HeaderText). count_of xs ≤ 32832) (sym same) sized.few_fields in
    omega (arith, sum_by_more_le (λ (x : HeaderText). 1 + length x.fields) hs i h lt, ap (λ (x : HeaderText). length x.fields) is)

-- a table's list is short
pub listed_few : (s : Source) (name : List ℕ) → IsSized s → length (ident_names (listed_by s name)) ≤ 14
listed_few s name h =
    let each = All-find IsSizedTable (λ (t : TableText). bytes_eq name t.ident.name) s.tables in
    grind (arith, length-map (listed_by s name) (λ (i : Ident). i.name), each)
