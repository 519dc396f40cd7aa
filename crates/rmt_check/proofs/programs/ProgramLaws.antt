-- The program of a text that breaks no rule is well formed, and no two of its fields are printed alike.
use Rattle.std.proofs.Common.{◌≡◌, ℕ, suc, ◌+◌, List, [], ◌∷◌, ◌++◌, None, Some, map, codes, length, drop, slice_get, get_or, All, refl, sym, ap, subst, ◌∙◌, append_assoc, arith, ◌==◌, ◌≢◌, true, not, ap₂}
use Rattle.std.specs.List.{range_with_len, list_all, flat_map, enumerate_from}
use Rattle.std.specs.Str.{bytes_eq}
use Rattle.std.proofs.lemmas.List.{length-map, map-append, take_at, drop_at, append_cancel_left}
use Rattle.std.proofs.lemmas.List.Elements.{All-nil, All-cons, All-map, All-head, All-tail, All-append, All-from_recursion}
use Rattle.std.proofs.lemmas.Option.{slice_get-get_or}
use Rattle.std.proofs.lemmas.Simd.{map-map}
use Rattle.rmt_lexer.specs.Text.{first_place}
use Rattle.rmt_check.specs.Parts.{Field, Header, Action, Table, Ident, Declared, HeaderText, ActionText, TableText, Source}
use Rattle.rmt_ast.specs.WellFormed.{AreDistinct, BeginsWith, HasHeaderNames, HasNames, HasCounts, IsProgram}
use Rattle.rmt_check.specs.Names.{Known, owned, of_metadata, declared_fields, metadata, fields_of, nodes_of, printed_name, common, common_fields, Owner, of_header, printed, header_fields}
use Rattle.rmt_check.specs.Meaning.{field_of, header_from, headers_from, action_of, table_of, program_of, node_of}
use Rattle.rmt_check.specs.Naming.{IsHeaderText, IsOfText, HasNoDot}
use Rattle.rmt_check.proofs.programs.NameLaws.{distinct, distinct_by}
use Rattle.rmt_check.proofs.programs.RuleLaws.{KeepsRules, headers_of, actions_of, no_when, keeps_rules, All-mid, FindsNone, fields_twice}
use Rattle.rmt_check.proofs.FieldLists.{front, start_of, length-front, back, all_header, all_headers}
use Rattle.rmt_check.proofs.programs.BlockLaws.{header_numbers, own_at, name_at, each_header, length-headers_from, fields_law}
use Rattle.std.proofs.lemmas.Bool.{eqb-false, not-true}
use Rattle.rmt_check.specs.Rules.{fault_of, repeated, declared_names}
use Rattle.rmt_check.proofs.Bounds.{distinct_tables, sized}
use Rattle.rmt_check.proofs.programs.HeaderLaws.{headers_law}
use Rattle.rmt_check.proofs.programs.TableLaws.{actions_law, tables_law}
use Rattle.rmt_check.proofs.programs.NodeLaws.{nodes_law, applied_law}
use Rattle.rmt_ast.specs.WellFormed as formed
use Rattle.std.specs.Prelude.{AllPairs}
use Rattle.std.proofs.lemmas.List.Kept.{AllPairs-cons}
use Rattle.rmt_bits.proofs.AllLaws.{All-from_test}
use Rattle.rmt_bits.proofs.PairLaws.{AllPairs-head, AllPairs-tail, AllPairs-append, AllPairs-map}
use Rattle.rmt_bits.proofs.FunctionLaws.{bytes_eq-same}

-- Printed names: what is before the dot, and what is behind it.

-- a name whose bytes are tested
no_dot : (name : List ℕ) → list_all (λ (b : ℕ). not (b == 46)) name ≡ true → HasNoDot name
no_dot name e = All-from_test (λ b. b ≢ 46) (λ (b : ℕ). not (b == 46)) (λ b t. eqb-false b 46 (not-true (b == 46) t)) name e

-- a printed name has a dot
not_printed : (name owner field : List ℕ) → HasNoDot name → name ≢ printed owner field
not_printed name owner field plain e = All-mid (λ b. b ≢ 46) owner 46 field (subst HasNoDot (e ∙ append_assoc owner (46 ∷ []) field) plain) refl

-- printed names are equal only of equal owners
same_owners : (o p f g : List ℕ) → HasNoDot o → HasNoDot p → printed o f ≡ printed p g → o ≡ p
same_owners [] [] f g ho hp e = refl
same_owners [] (c ∷ p) f g ho hp e = absurd (All-head (λ b. b ≢ 46) c p hp cc)
same_owners (b ∷ o) [] f g ho hp e = absurd (All-head (λ x. x ≢ 46) b o ho cc)
same_owners (b ∷ o) (c ∷ p) f g ho hp e =
    let rest = same_owners o p f g (All-tail (λ x. x ≢ 46) b o ho) (All-tail (λ x. x ≢ 46) c p hp) cc in
    let first : b ≡ c = cc in ap₂ (λ (x : ℕ) xs. x ∷ xs) first rest

-- and, of one owner, of equal fields
same_names : (o f g : List ℕ) → printed o f ≡ printed o g → f ≡ g
same_names o f g e = append_cancel_left (o ++ codes ".") f g e

abbrev Differ : Known → Known → Type 0
Differ f g = printed_name f ≢ printed_name g

module _ (s : Source) where
  -- a field whose printed name differs from those of headers, and of the metadata, differs from the fields behind it
  behind : (f : Known) (n : ℕ) (hs : List HeaderText) → All (λ (h : HeaderText). (name : List ℕ) → printed_name f ≢ printed h.ident.name name) hs
      → ((name : List ℕ) → printed_name f ≢ printed (codes "meta") name) → All (Differ f) (back s n hs)
  behind f n hs headers meta =
      All-append (Differ f) (flat_map header_fields (enumerate_from n hs)) (declared_fields of_metadata (codes "meta") (metadata s))
      (all_headers (Differ f) (λ (h : HeaderText). (name : List ℕ) → printed_name f ≢ printed h.ident.name name) n hs headers (λ k h from to other. all_header (Differ f) k h (other (codes "valid")) (λ j d lt. other _)))
      (All-map (Differ f) (λ (d : Declared). owned of_metadata (codes "meta") d.ident.name d.width.value) (metadata s) (λ j d lt. meta _))

  -- a name without a dot differs from those with one
  plain_behind : (name : List ℕ) (width : ℕ) → HasNoDot name → All (Differ (common name width)) (back s 0 s.headers)
  plain_behind name width dot = behind (common name width) 0 s.headers (λ k d lt field. not_printed name _ field dot) (λ field. not_printed name (codes "meta") field dot)

  declared_apart : (o : Owner) (name : List ℕ) (ds : List Declared) → repeated (declared_names ds) ≡ [] → AllPairs Differ (declared_fields o name ds)
  declared_apart o name ds e =
      AllPairs-map Differ (λ (d : Declared). owned o name d.ident.name d.width.value) ds
      (λ i j d lt within same. distinct_by (λ (d : Declared). d.ident) ds e i j d lt within (same_names name _ _ same))

  header_apart : (n : ℕ) (h : HeaderText) → IsHeaderText h → fields_twice h ≡ [] → AllPairs Differ (header_fields (n, h))
  header_apart n h text e =
      AllPairs-cons Differ _ _
      (All-map (Differ (owned (of_header n) h.ident.name (codes "valid") 1)) (λ (d : Declared). owned (of_header n) h.ident.name d.ident.name d.width.value) h.fields
      (λ k d lt same. text.fields k d lt (sym (same_names h.ident.name (codes "valid") _ same))))
      (declared_apart (of_header n) h.ident.name h.fields e)

  -- none of a header's fields is printed as one behind them
  header_behind : (n : ℕ) (h : HeaderText) (hs : List HeaderText) → IsHeaderText h → All IsHeaderText hs → All (λ (x : HeaderText). h.ident.name ≢ x.ident.name) hs
      → All (λ f. All (Differ f) (back s (n + 1) hs)) (header_fields (n, h))
  header_behind n h hs text texts other = all_header (λ f. All (Differ f) (back s (n + 1) hs)) n h (one (codes "valid") 1) (λ k d lt. one _ d.width.value)
    where
      one : (name : List ℕ) (width : ℕ) → All (Differ (owned (of_header n) h.ident.name name width)) (back s (n + 1) hs)
      one name width =
          behind (owned (of_header n) h.ident.name name width) (n + 1) hs (λ k d lt x same. other k d lt (same_owners h.ident.name _ name x text.no_dot (texts k d lt).no_dot same))
          (λ x same. text.not_meta (same_owners h.ident.name (codes "meta") name x text.no_dot (no_dot (codes "meta") refl) same))

  back_apart : (n : ℕ) (hs : List HeaderText) → All IsHeaderText hs → AllPairs (λ (x y : HeaderText). x.ident.name ≢ y.ident.name) hs → FindsNone fields_twice hs → repeated (declared_names (metadata s)) ≡ []
      → AllPairs Differ (back s n hs)
  back_apart n [] text apart once meta = declared_apart of_metadata (codes "meta") (metadata s) meta
  back_apart n (h ∷ hs) text apart once meta =
      let here = All-head IsHeaderText h hs text in
      let rest = All-tail IsHeaderText h hs text in
      subst (AllPairs Differ) (sym (append_assoc (header_fields (n, h)) (flat_map header_fields (enumerate_from (n + 1) hs)) (declared_fields of_metadata (codes "meta") (metadata s))))
      (AllPairs-append Differ (header_fields (n, h)) (back s (n + 1) hs) (header_apart n h here (All-head (λ (x : HeaderText). fields_twice x ≡ []) h hs once))
      (back_apart (n + 1) hs rest (AllPairs-tail (λ (x y : HeaderText). x.ident.name ≢ y.ident.name) h hs apart) (All-tail (λ (x : HeaderText). fields_twice x ≡ []) h hs once) meta)
      (header_behind n h hs here rest (AllPairs-head (λ (x y : HeaderText). x.ident.name ≢ y.ident.name) h hs apart)))

pub printed_apart : (s : Source) → KeepsRules s → All IsHeaderText s.headers → AreDistinct (map printed_name (fields_of s))
printed_apart s h text =
    let names = distinct_by (λ (x : HeaderText). x.ident) s.headers h.headers_once in
    let ident = λ (f : Known). (let i : Ident = record { place = first_place; name = printed_name f } in i) in
    AllPairs-map (λ x y. x ≢ y) printed_name (fields_of s)
    (AllPairs-append Differ common_fields (back s 0 s.headers) (distinct_by ident common_fields refl) (back_apart s 0 s.headers text names h.fields_once h.metadata_once)
    (All-from_recursion (λ f. All (Differ f) (back s 0 s.headers)) common_fields
    (plain_behind s (codes "in_port") 9 (no_dot (codes "in_port") refl), (plain_behind s (codes "out_port") 9 (no_dot (codes "out_port") refl), (plain_behind s (codes "drop") 1 (no_dot (codes "drop") refl), tt)))))

-- The names of a text that breaks no rule.

begins : (start rest : List ℕ) → BeginsWith start (start ++ rest)
begins start rest = ap (bytes_eq start) (take_at start rest (length start) refl) ∙ bytes_eq-same start

-- numbers in a row
row_all : {X : Type 0} (P : ℕ → Type 0) (xs : List X) (n : ℕ) → ((i : ℕ) (x : X) → slice_get xs i ≡ Some x → P (n + i)) → All P (range_with_len n (length xs))
row_all P [] n h = All-nil P
row_all P (x ∷ xs) n h =
    All-cons P n (range_with_len (n + 1) (length xs)) (subst P (omega arith) (h 0 x refl))
    (row_all P xs (n + 1) (λ i y e. subst P (omega arith) (h (suc i) y e)))

module _ (s : Source) where
  header_names_law : (before : List HeaderText) (h : HeaderText) (after : List HeaderText) → s.headers ≡ before ++ h ∷ after → HasHeaderNames (program_of s) (header_from s (start_of before) h)
  header_names_law before h after e = record {
    valid = name_at s before h after e 0 (start_of before) _ (omega arith) refl ∙ append_assoc h.ident.name (codes ".") (codes "valid");
    fields = row_all (λ f. BeginsWith (h.ident.name ++ codes ".") (formed.name_of (program_of s) f)) h.fields (start_of before + 1)
        (λ i d at. subst (BeginsWith (h.ident.name ++ codes "."))
        (sym (name_at s before h after e (suc i) (start_of before + 1 + i) _ (omega arith) (own_at s before h after e i d at)))
        (begins (h.ident.name ++ codes ".") d.ident.name));
  }

  names_from : (n : ℕ) (hs : List HeaderText) → map (λ (h : Header). h.name) (headers_from s n hs) ≡ map (λ (h : HeaderText). h.ident.name) hs
  names_from n [] = refl
  names_from n (h ∷ hs) = ap (λ (ns : List _). h.ident.name ∷ ns) (names_from (n + 1 + length h.fields) hs)

  names_of_tables : (ts : List TableText) → map (λ (t : Table). t.name) (map (table_of s) ts) ≡ map (λ (t : TableText). t.ident.name) ts
  names_of_tables [] = refl
  names_of_tables (t ∷ ts) = grind (arith, names_of_tables ts)

  metadata_law : All (λ (f : Field). BeginsWith (codes "meta.") f.name) (drop (3 + length (formed.header_fields (program_of s))) (map field_of (fields_of s)))
  metadata_law =
      let metas = declared_fields of_metadata (codes "meta") (metadata s) in
      let behind : drop (3 + length (formed.header_fields (program_of s))) (map field_of (fields_of s)) ≡ map field_of metas =
      ap (drop (3 + length (formed.header_fields (program_of s)))) (map-append field_of (front s.headers) metas)
      ∙ drop_at (map field_of (front s.headers)) (map field_of metas) (3 + length (formed.header_fields (program_of s)))
      (omega (arith, header_numbers s, length-front s.headers, length-map (front s.headers) field_of)) in
      subst (All (λ (f : Field). BeginsWith (codes "meta.") f.name)) (sym behind)
      (All-map (λ (f : Field). BeginsWith (codes "meta.") f.name) field_of metas
      (All-map (λ (f : Known). BeginsWith (codes "meta.") (printed_name f)) (λ (d : Declared). owned of_metadata (codes "meta") d.ident.name d.width.value) (metadata s) (λ k d lt. begins (codes "meta.") (get_or (metadata s) k d).ident.name)))

pub names_law : (s : Source) → KeepsRules s → All IsHeaderText s.headers → HasNames (program_of s)
names_law s h text = record {
  of_in_port = refl;
  of_out_port = refl;
  of_drop = refl;
  of_headers = λ k d lt. each_header s (λ n. HasHeaderNames (program_of s)) (header_names_law s) k _ (slice_get-get_or (headers_from s 3 s.headers) k d lt);
  of_metadata = metadata_law s;
  fields_once = subst AreDistinct (sym (map-map (λ (f : Field). f.name) field_of (fields_of s))) (printed_apart s h text);
  headers_once = subst AreDistinct (map-map (λ (i : Ident). i.name) (λ (x : HeaderText). x.ident) s.headers ∙ sym (names_from s 3 s.headers)) (distinct (headers_of s) h.headers_once);
  actions_once = subst AreDistinct (map-map (λ (i : Ident). i.name) (λ (x : ActionText). x.ident) s.actions ∙ sym (map-map (λ (a : Action). a.name) (action_of s) s.actions)) (distinct (actions_of s) h.actions_once);
  tables_once = subst AreDistinct (sym (names_of_tables s s.tables)) (distinct_tables s h);
}

-- How many headers, actions and nodes a text has that breaks no rule.

pub counts_law : (s : Source) → KeepsRules s → HasCounts (program_of s)
counts_law s h =
    let z = sized s h in
    record {
      a_header = let some = eqb-false (length s.headers) 0 (no_when (length s.headers == 0) first_place h.a_header) in omega (arith, length-headers_from s 3 s.headers);
      headers = omega (arith, z.few_headers, length-headers_from s 3 s.headers, length-map s.headers (λ (x : HeaderText). x.ident.name));
      actions = omega (arith, z.few_actions, length-map s.actions (action_of s), length-map s.actions (λ (x : ActionText). x.ident.name));
      nodes = omega (arith, z.few_nodes, length-map (nodes_of s) (node_of s));
    }

-- The program of a text that breaks no rule is well formed.

pub well_formed : (s : Source) → IsOfText s → fault_of s ≡ None → IsProgram (program_of s)
well_formed s text e =
    let h = keeps_rules s e in
    record {
      fields = fields_law s h;
      headers = headers_law s h text.headers;
      actions = actions_law s h;
      tables = tables_law s h text.tables;
      nodes = nodes_law s h text.nodes;
      applied = applied_law s h;
      counts = counts_law s h;
      names = names_law s h text.headers;
    }
