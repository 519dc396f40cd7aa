-- Lines that are read by the names of tables.
use Rattle.std.proofs.Common.{◌≡◌, ℕ, ◌<◌, ◌≤◌, ◌==◌, ◌&&◌, Bool, true, false, cond, List, [], ◌∷◌, Option, Some, None, Result, Ok, Err, IfOk, nat_lt, nat_le, not, ◌+◌, length, map, option_map, find, get_or, slice_get, unwrap_or, refl, sym, ap, subst, ◌∙◌, arith}
use Rattle.std.specs.Prelude.{All, position}
use Rattle.std.specs.List.{list_all, position_or_len}
use Rattle.std.specs.Str.{bytes_eq}
use Rattle.std.proofs.lemmas.Bool.{and_parts, eq-eqb, eqb-true, leb-true, ltb-true}
use Rattle.std.proofs.lemmas.List.{length-map}
use Rattle.std.proofs.lemmas.List.Elements.{All-cons, All-map, All-nil}
use Rattle.std.proofs.lemmas.Option.{slice_get-map, unwrap_or-slice_get}
use Rattle.rmt_bits.proofs.AllLaws.{All-find, All-from_test}
use Rattle.rmt_ast.specs.declared.entry.Entry.{Entry}
use Rattle.rmt_ast.specs.declared.names.Names.{Names}
use Rattle.rmt_ast.specs.declared.names.TableName.{TableName}
use Rattle.rmt_ast.specs.declared.names.ActionName.{ActionName}
use Rattle.rmt_ast.specs.EntryLists.{IsEntry}
use Rattle.rmt_ast.specs.NameRules.{action_names_differ, are_widths, has_fields, has_names, has_params, has_size, may_have_ranks, names_are_formed, nodes_rise, rise, table_is_formed, table_names_differ, terms_named, terms_of_name}
use Rattle.rmt_ast.specs.Naming.{has_key}
use Rattle.rmt_entries.specs.declared.fault.EntryFault.{EntryFault}
use Rattle.rmt_entries.specs.Entries.{Read, of_table, read_line, read_words}
use Rattle.rmt_entries.specs.Lines.{is_printable, words}
use Rattle.rmt_entries.specs.LinesSoFar.{IsReadable}
use Rattle.rmt_entries.specs.NamedLines.{IsNamedEntry, action_word, entry_read, key_of_table, key_words, named_entry, named_table, named_tables, table_in}
use Rattle.rmt_entries.specs.Tables.{AppliedTable, table_named}
use Rattle.rmt_entries.specs.Taken.{AreNarrow}
use Rattle.rmt_entries.proofs.LawKeys.{HasParams, ReadOf}
use Rattle.rmt_entries.proofs.LawLines.{read_line_law}
use Rattle.rmt_bits.proofs.OptionLaws.{same_Ok}

-- what is asked of a table's names
record Formed (t : TableName) : Type 0 where
  widths : are_widths t.keys ≡ true
  params : list_all has_params t.actions ≡ true

formed_of : (t : TableName) → table_is_formed t ≡ true → Formed t
formed_of t h =
    let p7 = and_parts (has_key t.kind && has_names t && action_names_differ t && are_widths t.keys && has_fields t.kind t.keys && list_all has_params t.actions && has_size t) (may_have_ranks t.kind t.ranks) h in
    let p6 = and_parts (has_key t.kind && has_names t && action_names_differ t && are_widths t.keys && has_fields t.kind t.keys && list_all has_params t.actions) (has_size t) p7.0 in
    let p5 = and_parts (has_key t.kind && has_names t && action_names_differ t && are_widths t.keys && has_fields t.kind t.keys) (list_all has_params t.actions) p6.0 in
    let p4 = and_parts (has_key t.kind && has_names t && action_names_differ t && are_widths t.keys) (has_fields t.kind t.keys) p5.0 in
    let p3 = and_parts (has_key t.kind && has_names t && action_names_differ t) (are_widths t.keys) p4.0 in
    record { widths = p3.1; params = p5.1 }

narrow : (ws : List ℕ) → are_widths ws ≡ true → AreNarrow ws
narrow ws h =
    All-from_test (λ w. w ≤ 128) (λ w. nat_le 1 w && nat_le w 128) (λ w e. leb-true w 128 (and_parts (nat_le 1 w) (nat_le w 128) e).1) ws h

narrow_params : (a : ActionName) → has_params a ≡ true → AreNarrow a.params
narrow_params a h = narrow a.params (and_parts (are_widths a.params) (nat_le (length a.params) 16) h).0

readable_table : (t : TableName) → Formed t → length t.actions < 4294967296 → IsReadable (named_table t)
readable_table t h few = record {
  widths = narrow t.keys h.widths;
  params =
      All-map AreNarrow (λ (a : ActionName). a.params) t.actions
      (All-from_test (λ (a : ActionName). AreNarrow a.params) has_params narrow_params t.actions h.params);
  few_actions = rw (length-map t.actions action_word) few;
}

-- the parts of the rules on names
record FormedNames (names : Names) : Type 0 where
  rising : rise (map (λ (t : TableName). t.node) names.tables) ≡ true
  each : All Formed names.tables

formed_names : (names : Names) → names_are_formed names ≡ true → FormedNames names
formed_names names h =
    let parts = and_parts (nodes_rise names && table_names_differ names) (list_all table_is_formed names.tables) h in
    record { rising = (and_parts (nodes_rise names) (table_names_differ names) parts.0).0; each = All-from_test Formed table_is_formed formed_of names.tables parts.1 }

-- the table of a name, as a line sees it
pub found_table : (names : Names) (name : List ℕ) → table_named (named_tables names) name ≡ option_map named_table (table_in names name)
found_table names name = by names.tables
  where
    step : (b : Bool) (t : TableName) (x : Option AppliedTable) (y : Option TableName) → x ≡ option_map named_table y → cond b (Some (named_table t)) x ≡ option_map named_table (cond b (Some t) y)
    step true t x y e = refl
    step false t x y e = e

    by : (ts : List TableName) → table_named (map named_table ts) name ≡ option_map named_table (find (λ (t : TableName). bytes_eq name t.name) ts)
    by [] = refl
    by (t ∷ ts) = step (bytes_eq name t.name) t (table_named (map named_table ts) name) (find (λ (x : TableName). bytes_eq name x.name) ts) (by ts)

found_formed : (names : Names) (name : List ℕ) (t : TableName) → names_are_formed names ≡ true → table_in names name ≡ Some t → Formed t
found_formed names name t h at = All-find Formed (λ (x : TableName). bytes_eq name x.name) names.tables t (formed_names names h).each at

pub found_narrow : (names : Names) (name : List ℕ) (t : TableName) → names_are_formed names ≡ true → table_in names name ≡ Some t → AreNarrow t.keys
found_narrow names name t h at = narrow t.keys (found_formed names name t h at).widths

pub found_readable : (names : Names) (name : List ℕ) (t : TableName) → names_are_formed names ≡ true → table_in names name ≡ Some t → length t.actions < 4294967296
    → IsReadable (named_table t)
found_readable names name t h at few =
    readable_table t (found_formed names name t h at) few

-- the place of the first action of a name is that of the name among the names of the actions
pub place_of_action : (q : List ℕ) (actions : List ActionName) → position (λ (a : ActionName). bytes_eq q a.name) actions ≡ position (bytes_eq q) (map action_word actions)
place_of_action q actions = rw (same actions, length-map actions action_word) refl
  where
    same : (xs : List ActionName) → position_or_len (λ (a : ActionName). bytes_eq q a.name) xs ≡ position_or_len (bytes_eq q) (map action_word xs)
    same [] = refl
    same (x ∷ xs) = ap (λ (n : ℕ). cond (not (bytes_eq q x.name)) (1 + n) 0) (same xs)

-- no action has no parameters
pub params_of_none : (actions : List ActionName) (place : ℕ) → slice_get actions place ≡ None → get_or (map (λ (a : ActionName). a.params) actions) place [] ≡ []
params_of_none actions place none =
    sym (unwrap_or-slice_get (map (λ (a : ActionName). a.params) actions) place []) ∙ ap (λ (o : Option (List ℕ)). unwrap_or o []) (slice_get-map (λ (a : ActionName). a.params) actions place ∙ ap (option_map (λ (a : ActionName). a.params)) none)

-- what follows from the first word
module _ (tables : List AppliedTable) (n : ℕ) (name : List ℕ) (old rest : List (List ℕ)) (first : old ≡ name ∷ rest) (more : (length rest == 0) ≡ false) where
  pub entry_words : read_words tables n old ≡ of_table n rest (table_named tables name)
  entry_words = rw first (by rest more)
    where
      by : (xs : List (List ℕ)) → (length xs == 0) ≡ false → read_words tables n (name ∷ xs) ≡ of_table n xs (table_named tables name)
      by [] e = cc
      by (x ∷ xs) e = refl

  pub words_of_key : key_words tables old ≡ key_of_table rest (table_named tables name)
  words_of_key = rw first (by rest more)
    where
      by : (xs : List (List ℕ)) → (length xs == 0) ≡ false → key_words tables (name ∷ xs) ≡ key_of_table xs (table_named tables name)
      by [] e = cc
      by (x ∷ xs) e = refl

-- a table is the first of its node
not_above : (n : ℕ) (ts : List TableName) → list_all (λ m. nat_lt n m) (map (λ (t : TableName). t.node) ts) ≡ true → All (λ (t : TableName). n < t.node) ts
not_above n [] h = All-nil _
not_above n (t ∷ ts) h =
    let parts = and_parts (nat_lt n t.node) (list_all (λ m. nat_lt n m) (map (λ (x : TableName). x.node) ts)) h in
    All-cons (λ (x : TableName). n < x.node) t ts (ltb-true n t.node parts.0) (not_above n ts parts.1)

abbrev pub IsFirst : List TableName → TableName → Type 0
IsFirst ts t = find (λ (x : TableName). x.node == t.node) ts ≡ Some t

are_first : (ts : List TableName) → rise (map (λ (t : TableName). t.node) ts) ≡ true → All (IsFirst ts) ts
are_first [] h = All-nil _
are_first (t ∷ ts) h =
    let parts = and_parts (list_all (λ m. nat_lt t.node m) (map (λ (x : TableName). x.node) ts)) (rise (map (λ (x : TableName). x.node) ts)) h in
    All-cons (IsFirst (t ∷ ts)) t ts (here (t.node == t.node) (eq-eqb t.node t.node refl))
    (λ k d lt. past (get_or ts k d) (not_above t.node ts parts.0 k d lt) (are_first ts parts.1 k d lt))
  where
    here : (b : Bool) → b ≡ true → cond b (Some t) (find (λ (x : TableName). x.node == t.node) ts) ≡ Some t
    here b e = rw e refl

    past : (x : TableName) → t.node < x.node → IsFirst ts x → IsFirst (t ∷ ts) x
    past x lt first = by (t.node == x.node) refl
      where
        by : (b : Bool) → (t.node == x.node) ≡ b → cond b (Some t) (find (λ (y : TableName). y.node == x.node) ts) ≡ Some x
        by true e = absurd (omega (arith, lt, eqb-true t.node x.node e))
        by false e = first

-- a table whose terms are those that the names give its node
abbrev pub IsNamed : Names → AppliedTable → Type 0
IsNamed names t = (terms_named names t.node ≡ Some t.terms) × HasParams t

are_named : (names : Names) → names_are_formed names ≡ true → All (IsNamed names) (named_tables names)
are_named names h =
    All-map (IsNamed names) named_table names.tables
    (λ k d lt.
    let t = get_or names.tables k d in
    (ap (option_map terms_of_name) (are_first names.tables (formed_names names h).rising k d lt), length-map t.actions (λ (a : ActionName). a.params) ∙ sym (length-map t.actions action_word)))

-- an entry that a line says is one that the names allow
pub named_entry_law : (names : Names) (line : List ℕ) (e : Entry) → names_are_formed names ≡ true → named_entry names line ≡ Ok e → IsNamedEntry names e
named_entry_law names line e h said = by (read_line (named_tables names) 0 line) refl said
  where
    by : (o : Result Read ℕ) → read_line (named_tables names) 0 line ≡ o → entry_read o ≡ Ok e → IsNamedEntry names e
    by (Err code) s i = cc
    by (Ok r) s i =
        let read = read_line_law (IsNamed names) (named_tables names) 0 r (λ t f. f.1) (are_named names h) line s in
        subst (λ (x : Entry). IsNamedEntry names x) (same_Ok r.entry e i) (at r read.table.0 read.read)
      where
        at : (r : Read) → terms_named names r.table.node ≡ Some r.table.terms → ReadOf r.table 0 r → IsNamedEntry names r.entry
        at r named read = rw (ap (terms_named names) read.entry.table ∙ named) (subst (λ (n : ℕ). IsEntry n r.table.terms r.entry) (sym read.entry.table) read.entry)

-- an entry that is read of the words of a line
pub well_formed_entry : (names : Names) (line : List ℕ) (old rest : List (List ℕ)) (t : AppliedTable) (r : Result Entry EntryFault) → names_are_formed names ≡ true → is_printable line ≡ true
    → old ≡ words line → read_words (named_tables names) 0 old ≡ of_table 0 rest (Some t) → IfOk r (λ e. of_table 0 rest (Some t) ≡ Ok (record { table = t; entry = e })) → IfOk r (λ e. IsNamedEntry names e)
well_formed_entry names line old rest t (Err fault) h p w same read = tt
well_formed_entry names line old rest t (Ok e) h p w same read =
    let said : read_words (named_tables names) 0 (words line) ≡ Ok (record { table = t; entry = e }) = ap (read_words (named_tables names) 0) (sym w) ∙ same ∙ read in
    named_entry_law names line e h (rw (p, said) refl)
