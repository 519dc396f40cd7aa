-- Entries that are well formed for names stay so where one is added or removed.
use Rattle.std.proofs.Common.{◌≡◌, ◌≢◌, ◌⊎◌, ℕ, zero, suc, ◌+◌, ◌<◌, ◌≤◌, ◌==◌, ◌&&◌, true, false, List, [], ◌∷◌, ◌++◌, length, map, Option, Some, None, option_map, unwrap_or, refl, sym, ap, subst, ◌∙◌, inl, inr, arith}
use Rattle.std.specs.Prelude.{All, Contains, IsSomeAnd, find, slice_get, slice_set}
use Rattle.std.specs.List.{flat_map, list_all, range_with_len}
use Rattle.std.proofs.lemmas.Bool.{and_parts, cases_eq, eqb-true}
use Rattle.std.proofs.lemmas.List.{length-set}
use Rattle.std.proofs.lemmas.List.Elements.{All-append, All-cons, All-contains, All-contains_itself, All-map, All-nil, All-set, All-weaker}
use Rattle.std.proofs.lemmas.Option.{none-some, same_Some, slice_get_within}
use Rattle.rmt_bits.proofs.AllLaws.{All-find, All-flat_map, All-from_test, All-left, All-parts, All-right}
use Rattle.rmt_bits.proofs.ListLaws.{slice_get-item, slice_get-set_other, slice_get-set_same}
use Rattle.rmt_bits.proofs.MemberLaws.{Contains-flat_map, Contains-item, Contains-map}
use Rattle.rmt_bits.proofs.PairLaws.{AllPairs-across, AllPairs-append, AllPairs-left, AllPairs-right}
use Rattle.rmt_ast.specs.declared.entry.Entry.{Entry}
use Rattle.rmt_ast.specs.declared.names.Names.{Names}
use Rattle.rmt_ast.specs.declared.names.TableName.{TableName}
use Rattle.rmt_ast.specs.Answers.{entry_numbers}
use Rattle.rmt_ast.specs.Changes.{EntryKey, Installed, added, list_of, removed, without, key_of_entry, is_held}
use Rattle.rmt_ast.specs.EntryLists.{AreEntriesAt, AreEntriesFor, IsEntry, Terms}
use Rattle.rmt_ast.specs.NameRules.{AreEntriesOf, has_fields, names_are_formed, nodes_rise, table_is_formed, table_names_differ, terms_named, terms_of_name}
use Rattle.rmt_ast.specs.WellFormed.{AreDistinct}
use Rattle.rmt_ast.proofs.EntryLaws.{all_without}
use Rattle.rmt_entries.specs.Entries.{has_keys_once}
use Rattle.rmt_pack.proofs.EntryLaws.{distinct_at, entries_without, numbered, table_added}
use Rattle.rmt_pack.proofs.PartLaws.{and_from as some_from}
use Rattle.rmt_update.specs.Following.{IsNextAbove}
use Rattle.rmt_lists.proofs.FilterLaws.{numbers_of}
use Rattle.rmt_update.proofs.BookLaws.{name-facts}
use Rattle.rmt_update.proofs.RoomNumbers.{slice_get-map_range}
use Rattle.rmt_update.proofs.TableRules.{entries-at}
use Rattle.rmt_ast.specs.declared.program.Kind.TheVariants as kind

-- ---- numbers that stand once

-- what holds of the numbers of all entries holds where those of one node are replaced by others of which it holds
pub numbers_set : (P : ℕ → Type 0) (lists : List (List Entry)) (i : ℕ) (new : List Entry) → All P (flat_map entry_numbers lists) → All (λ (e : Entry). P e.number) new → All P (flat_map entry_numbers (slice_set lists i new))
numbers_set P lists i new all own =
    All-flat_map P entry_numbers (slice_set lists i new)
    (All-set (λ es. All P (entry_numbers es)) lists i new (All-map P (λ (e : Entry). e.number) new own) (All-parts P entry_numbers lists all))

in_flat : (lists : List (List Entry)) (i n : ℕ) → Contains (entry_numbers (list_of lists i)) n → Contains (flat_map entry_numbers lists) n
in_flat lists i n there = by (slice_get lists i) refl there
  where
    by : (o : Option (List Entry)) → slice_get lists i ≡ o → Contains (entry_numbers (unwrap_or o [])) n → Contains (flat_map entry_numbers lists) n
    by None at h = absurd (let lt = h.1 in omega (arith, lt))
    by (Some es) at h = Contains-flat_map entry_numbers lists es n (Contains-item lists i es at) h

-- a number is one of these entries' or the next one
abbrev IsOldOrNext : ℕ → List Entry → Entry → Type 0
IsOldOrNext next old e = Contains (entry_numbers old) e.number ⊎ (e.number ≡ next)

abbrev Differ : ℕ → ℕ → Type 0
Differ m n = m ≢ n

-- numbers stand once where those of one node are replaced by some of them and the next one
distinct_set : (next : ℕ) (lists : List (List Entry)) (i : ℕ) (new : List Entry) → AreDistinct (flat_map entry_numbers lists) → All (λ n. n < next) (flat_map entry_numbers lists)
    → (i < length lists → AreDistinct (entry_numbers new)) → All (IsOldOrNext next (list_of lists i)) new → AreDistinct (flat_map entry_numbers (slice_set lists i new))
distinct_set next [] i new once low own all = once
distinct_set next (x ∷ xs) zero new once low own all =
    AllPairs-append Differ (entry_numbers new) (flat_map entry_numbers xs) (own (omega arith)) (AllPairs-right Differ (entry_numbers x) (flat_map entry_numbers xs) once)
    (All-map (λ p. All (Differ p) (flat_map entry_numbers xs)) (λ (e : Entry). e.number) new
    (All-weaker (IsOldOrNext next x) (λ (e : Entry). All (Differ e.number) (flat_map entry_numbers xs)) apart new all))
  where
    apart : (e : Entry) → IsOldOrNext next x e → All (Differ e.number) (flat_map entry_numbers xs)
    apart e (inl old) = All-contains (λ p. All (Differ p) (flat_map entry_numbers xs)) (entry_numbers x) e.number (AllPairs-across Differ (entry_numbers x) (flat_map entry_numbers xs) once) old
    apart e (inr is) =
        All-weaker (λ n. n < next) (Differ e.number) (λ n lt same. absurd (omega (arith, lt, same, is))) (flat_map entry_numbers xs) (All-right (λ n. n < next) (entry_numbers x) (flat_map entry_numbers xs) low)
distinct_set next (x ∷ xs) (suc i) new once low own all =
    AllPairs-append Differ (entry_numbers x) (flat_map entry_numbers (slice_set xs i new)) (AllPairs-left Differ (entry_numbers x) (flat_map entry_numbers xs) once)
    (distinct_set next xs i new (AllPairs-right Differ (entry_numbers x) (flat_map entry_numbers xs) once) (All-right (λ n. n < next) (entry_numbers x) (flat_map entry_numbers xs) low)
    (λ lt. own (omega (arith, lt))) all)
    (All-weaker (Contains (entry_numbers x)) (λ p. All (Differ p) (flat_map entry_numbers (slice_set xs i new))) others (entry_numbers x) (All-contains_itself (entry_numbers x)))
  where
    across : (p : ℕ) → Contains (entry_numbers x) p → All (Differ p) (flat_map entry_numbers xs)
    across p there = All-contains (λ n. All (Differ n) (flat_map entry_numbers xs)) (entry_numbers x) p (AllPairs-across Differ (entry_numbers x) (flat_map entry_numbers xs) once) there

    other : (p : ℕ) → Contains (entry_numbers x) p → (e : Entry) → IsOldOrNext next (list_of xs i) e → Differ p e.number
    other p there e (inl old) = All-contains (Differ p) (flat_map entry_numbers xs) e.number (across p there) (in_flat xs i e.number old)
    other p there e (inr is) =
        let lt = All-contains (λ n. n < next) (entry_numbers x) p (All-left (λ n. n < next) (entry_numbers x) (flat_map entry_numbers xs) low) there in λ same. absurd (omega (arith, lt, same, is))

    others : (p : ℕ) → Contains (entry_numbers x) p → All (Differ p) (flat_map entry_numbers (slice_set xs i new))
    others p there = numbers_set (Differ p) xs i new (across p there) (All-weaker (IsOldOrNext next (list_of xs i)) (λ (e : Entry). Differ p e.number) (other p there) new all)

-- ---- a list in place of another

module _ (names : Names) (s : Installed) (entries : AreEntriesOf names s.lists) (above : IsNextAbove s) (i : ℕ) (new : List Entry) (good : i < length s.lists → AreEntriesAt i new (terms_named names i)) where
  abbrev lists : List (List Entry)
  lists = slice_set s.lists i new

  abbrev terms : List (Option Terms)
  terms = map (terms_named names) (range_with_len 0 (length s.lists))

  terms_there : (n : ℕ) → n < length s.lists → slice_get terms n ≡ Some (terms_named names n)
  terms_there n lt = let none : 0 + n ≡ n = omega arith in slice_get-map_range (terms_named names) 0 (length s.lists) n lt ∙ ap (λ m. Some (terms_named names m)) none

  each_good : (n : ℕ) (es : List Entry) → slice_get lists n ≡ Some es → IsSomeAnd (slice_get terms n) (AreEntriesAt n es)
  each_good n es at = elim (cases_eq n i) [
    | inl same ↦
        let within = slice_get_within lists n es at in
        let long = length-set s.lists i new in
        let lt : n < length s.lists = omega (arith, within, long) in
        let lt_i : i < length s.lists = omega (arith, lt, same) in
        let old = slice_get-item s.lists i lt_i in
        let is : new ≡ es = same_Some new es (sym (slice_get-set_same s.lists i old.0 new old.1) ∙ ap (slice_get lists) (sym same) ∙ at) in
        let own : AreEntriesAt n es (terms_named names n) = subst (λ m. AreEntriesAt m es (terms_named names m)) (sym same) (subst (λ (xs : List Entry). AreEntriesAt i xs (terms_named names i)) is (good lt_i)) in
        some_from (slice_get terms n) (AreEntriesAt n es) (terms_named names n) (terms_there n lt) own
    | inr other ↦ entries.entries.each n es (sym (slice_get-set_other s.lists i n new other) ∙ at)
  ]

  pub entries_set : All (IsOldOrNext s.next (list_of s.lists i)) new → AreEntriesOf names (slice_set s.lists i new)
  entries_set all =
      let long : length (slice_set s.lists i new) ≡ length s.lists = length-set s.lists i new in
      let are : AreEntriesFor terms (slice_set s.lists i new) = record {
        for_each_node = long ∙ entries.entries.for_each_node;
        each = each_good;
        numbers_once = distinct_set s.next s.lists i new entries.entries.numbers_once above (λ lt. distinct_at i new (terms_named names i) (good lt)) all;
      } in
      record {
        tables = subst (λ n. All (λ (t : TableName). t.node < n) names.tables) (sym long) entries.tables;
        entries = subst (λ n. AreEntriesFor (map (terms_named names) (range_with_len 0 n)) (slice_set s.lists i new)) (sym long) are;
      }

-- ---- an entry is added

-- a prefix table of names has a field
one_field : (t : TableName) → table_is_formed t ≡ true → t.kind ≡ kind.Prefix → length t.keys ≡ 1
one_field t formed is = eqb-true (length t.keys) 1 (ap (λ k. has_fields k t.keys) (sym is) ∙ (name-facts t formed).fields)

has_field : (names : Names) → names_are_formed names ≡ true → (n : ℕ) (t : Terms) → terms_named names n ≡ Some t → t.kind ≡ kind.Prefix → 1 ≤ length t.widths
has_field names formed n t told is = by (find (λ (x : TableName). x.node == n) names.tables) refl told
  where
    all : All (λ (x : TableName). table_is_formed x ≡ true) names.tables
    all = All-from_test (λ (x : TableName). table_is_formed x ≡ true) table_is_formed (λ x e. e) names.tables (and_parts (nodes_rise names && table_names_differ names) (list_all table_is_formed names.tables) formed).1

    by : (o : Option TableName) → find (λ (x : TableName). x.node == n) names.tables ≡ o → option_map terms_of_name o ≡ Some t → 1 ≤ length t.widths
    by None at h = absurd (none-some t h)
    by (Some x) at h =
        let same = same_Some (terms_of_name x) t h in
        let one = one_field x (All-find (λ (y : TableName). table_is_formed y ≡ true) (λ (y : TableName). y.node == n) names.tables x all at) (ap (λ (u : Terms). u.kind) same ∙ is) in
        let widths : length x.keys ≡ length t.widths = ap (λ (u : Terms). length u.widths) same in
        omega (arith, one, widths)

old_there : (es : List Entry) (e : Entry) (next : ℕ) → Contains es e → IsOldOrNext next es e
old_there es e next there = inl (Contains-map (λ (x : Entry). x.number) es e there)

all_old : (next : ℕ) (es : List Entry) → All (IsOldOrNext next es) es
all_old next es = All-weaker (Contains es) (IsOldOrNext next es) (λ e there. old_there es e next there) es (All-contains_itself es)

-- an entry of its table that may be added
pub entries_added : (names : Names) (s : Installed) (e : Entry) (t : Terms) → names_are_formed names ≡ true → AreEntriesOf names s.lists → IsNextAbove s → terms_named names e.table ≡ Some t → IsEntry e.table t e
    → (has_keys_once t.kind && is_held (key_of_entry e) (list_of s.lists e.table)) ≡ false → length (list_of s.lists e.table) < t.size → AreEntriesOf names (added s.lists (record e { number = s.next }))
entries_added names s e t formed entries above told is new room =
    entries_set names s entries above e.table (es ++ numbered e s.next ∷ []) good
    (All-append (IsOldOrNext s.next es) es (numbered e s.next ∷ []) (all_old s.next es) (All-cons (IsOldOrNext s.next es) (numbered e s.next) [] (inr refl) (All-nil (IsOldOrNext s.next es))))
  where
    es : List Entry
    es = list_of s.lists e.table

    good : e.table < length s.lists → AreEntriesAt e.table (list_of s.lists e.table ++ numbered e s.next ∷ []) (terms_named names e.table)
    good lt =
        let old = subst (AreEntriesAt e.table (list_of s.lists e.table)) told (entries-at names s.lists e.table entries lt) in
        subst (AreEntriesAt e.table (list_of s.lists e.table ++ numbered e s.next ∷ [])) (sym told)
        (table_added has_keys_once refl refl e.table t (list_of s.lists e.table) e s.next (has_field names formed e.table t told) old is new room (numbers_of (λ n. n < s.next) s.lists e.table above))

-- ---- an entry is removed

pub entries_removed : (names : Names) (s : Installed) (node : ℕ) (key : EntryKey) → AreEntriesOf names s.lists → IsNextAbove s → AreEntriesOf names (removed s.lists node key)
entries_removed names s node key entries above =
    entries_set names s entries above node (without key (list_of s.lists node)) (λ lt. entries_without node key (list_of s.lists node) (terms_named names node) (entries-at names s.lists node entries lt))
    (all_without (IsOldOrNext s.next (list_of s.lists node)) key (list_of s.lists node) (all_old s.next (list_of s.lists node)))
