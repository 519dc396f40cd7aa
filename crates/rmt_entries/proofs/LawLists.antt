-- The lists that a text says are well formed for its program.
use Rattle.std.proofs.Common.{◌≡◌, ◌≢◌, ℕ, zero, suc, ◌-◌, ◌^◌, ◌<◌, ◌≤◌, ◌==◌, Bool, true, false, List, [], ◌∷◌, ◌++◌, Option, Some, None, Result, Ok, Err, IsTrue, IsSomeAnd, All, cond, length, option_map, slice_get, get_or, refl, sym, ap, subst, ◌∙◌, add-one, inl, inr, arith}
use Rattle.std.specs.Prelude.{AllPairs}
use Rattle.std.specs.List.{AllZip, flat_map}
use Rattle.std.proofs.Math.Pow.{pow-lt, pow_mono}
use Rattle.std.proofs.lemmas.Bool.{cases_lt, eqb-true}
use Rattle.std.proofs.lemmas.Grind.{flat_map-append}
use Rattle.std.proofs.lemmas.List.{append-nil, length-map}
use Rattle.std.proofs.lemmas.List.Elements.{All-nil, All-cons, All-append, All-filter, All-map, All-weaker, All-head, All-tail}
use Rattle.std.proofs.lemmas.List.Kept.{AllPairs-filter}
use Rattle.std.proofs.lemmas.Option.{get_or_from_slice_get, same_Some, slice_get-get_or, slice_get-map, slice_get_within}
use Rattle.rmt_bits.proofs.AllLaws.{All-slice_get}
use Rattle.rmt_bits.proofs.ListLaws.{slice_get-item}
use Rattle.rmt_ast.specs.declared.program.Program.{Program}
use Rattle.rmt_ast.specs.declared.program.Test.{Test}
use Rattle.rmt_ast.specs.declared.program.Table.{Table}
use Rattle.rmt_ast.specs.declared.program.Kind.{Kind}
use Rattle.rmt_ast.specs.declared.program.Node.{Node}
use Rattle.rmt_ast.specs.declared.program.What.{What}
use Rattle.rmt_ast.specs.declared.program.What.TheVariants.{Apply, Gate}
use Rattle.rmt_ast.specs.declared.program.Kind.TheVariants.{Keyless, Exact, Prefix, Ternary}
use Rattle.rmt_ast.specs.declared.entry.Entry.{Entry}
use Rattle.rmt_ast.specs.Answers.{entry_numbers}
use Rattle.rmt_ast.specs.EntryLists.{AreEntries, AreEntriesAt, AreEntriesFor, AreTableEntries, HasKeysOnce, HasRank, IsEntry, IsPrefix, Terms, terms_at, terms_of}
use Rattle.rmt_ast.specs.State.{width_of}
use Rattle.rmt_ast.specs.WellFormed.{AreDistinct, AllNumbered, HasKey, IsProgram, IsTable}
use Rattle.rmt_entries.specs.declared.fault.EntryFault.{EntryFault}
use Rattle.rmt_entries.specs.declared.fault.EntryFault.TheVariants.{NoMemory, At}
use Rattle.rmt_entries.specs.Entries.{by_node, entries_at, entries_of, entry_of, has_keys_once, identity, line_then, lists_or_fault, reading}
use Rattle.rmt_bits.specs.Lines.{numbered_lines}
use Rattle.rmt_entries.specs.Reads.{node_terms}
use Rattle.rmt_entries.specs.LinesSoFar.{is_once}
use Rattle.rmt_entries.specs.Tables.{AppliedTable, applied_tables}
use Rattle.rmt_entries.proofs.GatherLaws.{by_node_at, by_node_more, length-by_node}
use Rattle.rmt_entries.proofs.LawLines.{AreRead, Fit, IsOwn, none_read, read_push}
use Rattle.rmt_entries.proofs.ProgramLaws.{are_applied, have_params}
use Rattle.rmt_bits.proofs.PairLaws.{AllPairs-append, AllPairs-map, AllPairs-none}
use Rattle.rmt_bits.proofs.OptionLaws.{same_Ok}

-- all lines
reading_law : (terms : List (Option Terms)) (tables : List AppliedTable) (es out : List Entry) (ls : List (ℕ × List ℕ)) → All (Fit terms) tables → AreRead terms es → reading tables es ls ≡ Ok out → AreRead terms out
reading_law terms tables es out [] fit h e = subst (AreRead terms) (same_Ok es out e) h
reading_law terms tables es out (l ∷ ls) fit h e =
    by (entry_of tables es l.1) refl (λ x s. reading_law terms tables (es ++ x ∷ []) out ls fit (read_push terms tables es l.1 x fit h s)) e
  where
    by : (o : Result Entry ℕ) → entry_of tables es l.1 ≡ o → ((x : Entry) → entry_of tables es l.1 ≡ Ok x → reading tables (es ++ x ∷ []) ls ≡ Ok out → AreRead terms out)
        → line_then l.0 o (λ x. reading tables (es ++ x ∷ []) ls) ≡ Ok out → AreRead terms out
    by (Err code) s more i = cc
    by (Ok x) s more i = more x s i

-- two powers of two
same_power : (i j : ℕ) → 2 ^ i ≡ 2 ^ j → i ≡ j
same_power i j e =
    elim (cases_lt i j) [
      | inl lt ↦ let p : 2 ^ i < 2 ^ j = pow-lt lt in absurd (omega arith)
      | inr ge ↦ elim (cases_lt j i) [ inl lt ↦ let p : 2 ^ j < 2 ^ i = pow-lt lt in absurd (omega arith) | inr le ↦ omega arith ]
    ]

-- prefixes of one mask have one length
prefix_len : (ws : List ℕ) (a b : ℕ) (tests : List Test) → length ws ≡ 1 → AllZip (IsPrefix a) ws tests → AllZip (IsPrefix b) ws tests → a ≡ b
prefix_len [] a b tests one x y = absurd (omega arith)
prefix_len (w ∷ ws) a b [] one x y = absurd x
prefix_len (w ∷ ws) a b (t ∷ ts) one x y =
    let low : w - a ≤ w = omega arith in
    let low_b : w - b ≤ w = omega arith in
    let pa : 2 ^ (w - a) ≤ 2 ^ w = pow_mono low in
    let pb : 2 ^ (w - b) ≤ 2 ^ w = pow_mono low_b in
    let masks : 2 ^ w - 2 ^ (w - a) ≡ 2 ^ w - 2 ^ (w - b) = sym x.0.1 ∙ y.0.1 in
    let powers : 2 ^ (w - a) ≡ 2 ^ (w - b) = omega arith in
    let lens : w - a ≡ w - b = same_power (w - a) (w - b) powers in
    omega (arith, x.0.0, y.0.0, lens)

-- entries of one table whose identities differ have other tests
tests_differ : (kind : Kind) (ws : List ℕ) (a b : Entry) → has_keys_once kind ≡ true → (kind ≡ Prefix → length ws ≡ 1) → HasRank kind ws a → HasRank kind ws b → a.table ≡ b.table → identity b ≢ identity a → a.tests ≢ b.tests
tests_differ kind ws a b once one ra rb table differ same = differ (identities table (ranks kind once one ra rb) same)
  where
    ranks : (kind : Kind) → has_keys_once kind ≡ true → (kind ≡ Prefix → length ws ≡ 1) → HasRank kind ws a → HasRank kind ws b → a.rank ≡ b.rank
    ranks Keyless o w x y = cc
    ranks Exact o w x y = x.1 ∙ sym y.1
    ranks Prefix o w x y = prefix_len ws a.rank b.rank a.tests (w refl) x (subst (AllZip (IsPrefix b.rank) ws) (sym same) y)
    ranks Ternary o w x y = cc

    identities : a.table ≡ b.table → a.rank ≡ b.rank → a.tests ≡ b.tests → identity b ≡ identity a
    identities t r s = rw (t, r, s) refl

-- a table of prefixes has one key field
abbrev OnePrefix : List (Option Terms) → Type 0
OnePrefix terms = (n : ℕ) (t : Terms) → slice_get terms n ≡ Some (Some t) → t.kind ≡ Prefix → length t.widths ≡ 1

keys_by_kind : (kind : Kind) (es : List Entry) → (has_keys_once kind ≡ true → AllPairs (λ (a b : Entry). a.tests ≢ b.tests) es) → HasKeysOnce kind es
keys_by_kind Keyless es h = tt
keys_by_kind Exact es h = h refl
keys_by_kind Prefix es h = h refl
keys_by_kind Ternary es h = tt

-- the entries at a node have its number
at_node : (es : List Entry) (n : ℕ) → All (λ (e : Entry). e.table ≡ n) (entries_at es n)
at_node [] n = All-nil (λ (e : Entry). e.table ≡ n)
at_node (e ∷ es) n = by (n == e.table) refl (at_node es n)
  where
    by : (b : Bool) → (n == e.table) ≡ b → All (λ (x : Entry). x.table ≡ n) (entries_at es n) → All (λ (x : Entry). x.table ≡ n) (cond b (e ∷ entries_at es n) (entries_at es n))
    by true s rest = All-cons (λ (x : Entry). x.table ≡ n) e (entries_at es n) (sym (eqb-true n e.table s)) rest
    by false s rest = rest

-- a node without a table has none
none_at : (terms : List (Option Terms)) (es : List Entry) (n : ℕ) → All (IsOwn terms) es → slice_get terms n ≡ Some None → entries_at es n ≡ []
none_at terms [] n h e = refl
none_at terms (x ∷ xs) n h e = by (n == x.table) refl (none_at terms xs n (All-tail (IsOwn terms) x xs h) e)
  where
    by : (b : Bool) → (n == x.table) ≡ b → entries_at xs n ≡ [] → cond b (x ∷ entries_at xs n) (entries_at xs n) ≡ []
    by true s rest =
        let own = All-head (IsOwn terms) x xs h in
        let at : (let o : Option (Option Terms) = Some None in o) ≡ Some (Some own.own) = sym e ∙ ap (slice_get terms) (eqb-true n x.table s) ∙ own.at in
        let none : None ≡ Some own.own = same_Some None (Some own.own) at in
        cc
    by false s rest = rest

not_both : (o : Option Entry) (k : ℕ) → IsSomeAnd o (λ (e : Entry). e.table < k) → IsSomeAnd o (λ (e : Entry). e.table ≡ k) → ⊥
not_both None k x y = absurd x
not_both (Some e) k x y = absurd (omega (arith, x, y))

module _ (terms : List (Option Terms)) (es : List Entry) (h : AreRead terms es) (one : OnePrefix terms) where
  rising : AllPairs (λ (a b : Entry). a.number < b.number) es
  rising i j d lt below =
      let early : i < length es = omega arith in
      omega (arith, lt, h.numbers i d early, h.numbers j d below)

  rising_at : (n : ℕ) → AllPairs (λ (a b : Entry). a.number < b.number) (entries_at es n)
  rising_at n = AllPairs-filter (λ (a b : Entry). a.number < b.number) (λ (e : Entry). n == e.table) es rising

  -- the entries of a table
  own_at : (n : ℕ) (t : Terms) → slice_get terms n ≡ Some (Some t) → All (IsEntry n t) (entries_at es n)
  own_at n t s k d lt =
      let x = get_or (entries_at es n) k d in
      let own : IsOwn terms x = All-filter (λ (e : Entry). n == e.table) (IsOwn terms) es h.each k d lt in
      let table : x.table ≡ n = at_node es n k d lt in
      let same : own.own ≡ t = same_Some own.own t (same_Some (Some own.own) (Some t) (sym own.at ∙ ap (slice_get terms) table ∙ s)) in
      subst (λ (m : ℕ). IsEntry m t x) table (subst (λ (u : Terms). IsEntry x.table u x) same own.entry)

  table_law : (n : ℕ) (t : Terms) → slice_get terms n ≡ Some (Some t) → AreTableEntries n (entries_at es n) t
  table_law n t s = record {
    each = own_at n t s;
    rising = rising_at n;
    keys_once = keys_by_kind t.kind (entries_at es n) (λ once i j d lt below.
        let early : i < length (entries_at es n) = omega arith in
        let a = get_or (entries_at es n) i d in
        let b = get_or (entries_at es n) j d in
        let a_at : a.table ≡ n = at_node es n i d early in
        let b_at : b.table ≡ n = at_node es n j d below in
        let known : is_once terms n ≡ has_keys_once t.kind = rw s refl in
        let differ : identity b ≢ identity a =
        AllPairs-filter (λ (x y : Entry). IsTrue (is_once terms y.table) → identity y ≢ identity x) (λ (e : Entry). n == e.table) es h.once i j d lt below (ap (is_once terms) b_at ∙ known ∙ once) in
        tests_differ t.kind t.widths a b once (one n t s) (own_at n t s i d early).rank (own_at n t s j d below).rank (a_at ∙ sym b_at) differ);
    within_size = h.sizes n t s;
  }

  each_law : AllNumbered (λ n xs. IsSomeAnd (slice_get terms n) (AreEntriesAt n xs)) (by_node (length terms) es)
  each_law n xs e =
      let below : n < length (by_node (length terms) es) = slice_get_within (by_node (length terms) es) n xs e in
      let within : n < length terms = subst (λ (m : ℕ). n < m) (length-by_node (length terms) es) below in
      let are : xs ≡ entries_at es n = sym (get_or_from_slice_get (by_node (length terms) es) n xs [] e) ∙ by_node_at (length terms) n es [] within in
      let item = slice_get-item terms n within in
      rw item.1 (at n xs item.0 item.1 are)
    where
      at : (n : ℕ) (xs : List Entry) (o : Option Terms) → slice_get terms n ≡ Some o → xs ≡ entries_at es n → AreEntriesAt n xs o
      at n xs None s are = are ∙ none_at terms es n h.each s
      at n xs (Some t) s are = subst (λ (ys : List Entry). AreTableEntries n ys t) (sym are) (table_law n t s)

  -- an entry stands at its number
  placed : All (λ (e : Entry). slice_get es e.number ≡ Some e) es
  placed k d lt = ap (slice_get es) (h.numbers k d lt) ∙ slice_get-get_or es k d lt

  numbers_at : (n : ℕ) → All (λ (x : ℕ). IsSomeAnd (slice_get es x) (λ (e : Entry). e.table ≡ n)) (entry_numbers (entries_at es n))
  numbers_at n =
      All-map (λ (x : ℕ). IsSomeAnd (slice_get es x) (λ (e : Entry). e.table ≡ n)) (λ (e : Entry). e.number) (entries_at es n)
      (λ k d lt.
      let here = All-filter (λ (e : Entry). n == e.table) (λ (e : Entry). slice_get es e.number ≡ Some e) es placed k d lt in
      rw here (at_node es n k d lt))

  numbers_more : (k : ℕ) → flat_map entry_numbers (by_node (suc k) es) ≡ flat_map entry_numbers (by_node k es) ++ entry_numbers (entries_at es k)
  numbers_more k =
      ap (λ (n : ℕ). flat_map entry_numbers (by_node n es)) (sym (add-one k)) ∙ ap (flat_map entry_numbers) (by_node_more k es)
      ∙ flat_map-append entry_numbers (by_node k es) (entries_at es k ∷ [])
      ∙ ap (λ (ns : List ℕ). flat_map entry_numbers (by_node k es) ++ ns) (append-nil (entry_numbers (entries_at es k)))

  numbers_below : (k : ℕ) → All (λ (x : ℕ). IsSomeAnd (slice_get es x) (λ (e : Entry). e.table < k)) (flat_map entry_numbers (by_node k es))
  numbers_below zero = All-nil _
  numbers_below (suc k) =
      subst (λ (ns : List ℕ). All (λ (x : ℕ). IsSomeAnd (slice_get es x) (λ (e : Entry). e.table < suc k)) ns) (sym (numbers_more k))
      (All-append (λ (x : ℕ). IsSomeAnd (slice_get es x) (λ (e : Entry). e.table < suc k)) (flat_map entry_numbers (by_node k es)) (entry_numbers (entries_at es k))
      (All-weaker (λ (x : ℕ). IsSomeAnd (slice_get es x) (λ (e : Entry). e.table < k)) (λ (x : ℕ). IsSomeAnd (slice_get es x) (λ (e : Entry). e.table < suc k))
      (λ x. later (slice_get es x)) (flat_map entry_numbers (by_node k es)) (numbers_below k))
      (All-weaker (λ (x : ℕ). IsSomeAnd (slice_get es x) (λ (e : Entry). e.table ≡ k)) (λ (x : ℕ). IsSomeAnd (slice_get es x) (λ (e : Entry). e.table < suc k))
      (λ x. here (slice_get es x)) (entry_numbers (entries_at es k)) (numbers_at k)))
    where
      later : (o : Option Entry) → IsSomeAnd o (λ (e : Entry). e.table < k) → IsSomeAnd o (λ (e : Entry). e.table < suc k)
      later None x = x
      later (Some e) x = omega (arith, x)

      here : (o : Option Entry) → IsSomeAnd o (λ (e : Entry). e.table ≡ k) → IsSomeAnd o (λ (e : Entry). e.table < suc k)
      here None x = absurd x
      here (Some e) x = omega (arith, x)

  numbers_once : (k : ℕ) → AreDistinct (flat_map entry_numbers (by_node k es))
  numbers_once zero = AllPairs-none (λ (x y : ℕ). x ≢ y)
  numbers_once (suc k) =
      subst (λ (ns : List ℕ). AreDistinct ns) (sym (numbers_more k))
      (AllPairs-append (λ (x y : ℕ). x ≢ y) (flat_map entry_numbers (by_node k es)) (entry_numbers (entries_at es k)) (numbers_once k)
      (AllPairs-map (λ (x y : ℕ). x ≢ y) (λ (e : Entry). e.number) (entries_at es k) (λ i j d lt below same. absurd (omega (arith, rising_at k i j d lt below, same))))
      (All-weaker (λ (x : ℕ). IsSomeAnd (slice_get es x) (λ (e : Entry). e.table < k)) (λ (x : ℕ). All (λ (y : ℕ). x ≢ y) (entry_numbers (entries_at es k)))
      (λ x low.
      All-weaker (λ (y : ℕ). IsSomeAnd (slice_get es y) (λ (e : Entry). e.table ≡ k)) (λ (y : ℕ). x ≢ y)
      (λ y high same. not_both (slice_get es y) k (subst (λ (z : ℕ). IsSomeAnd (slice_get es z) (λ (e : Entry). e.table < k)) same low) high) (entry_numbers (entries_at es k)) (numbers_at k))
      (flat_map entry_numbers (by_node k es)) (numbers_below k)))

  pub lists_law : AreEntriesFor terms (by_node (length terms) es)
  lists_law = record { for_each_node = length-by_node (length terms) es; each = each_law; numbers_once = numbers_once (length terms) }

one_prefix : (p : Program) → IsProgram p → OnePrefix (node_terms p)
one_prefix p h n t e kind = by (slice_get p.nodes n) (sym (slice_get-map (λ (node : Node). terms_at p node.what) p.nodes n) ∙ e)
  where
    table_by : (o : Option Table) → ((table : Table) → o ≡ Some table → IsTable p table) → option_map (terms_of p) o ≡ Some t → length t.widths ≡ 1
    table_by None is s = cc
    table_by (Some table) is s =
        let same : terms_of p table ≡ t = same_Some (terms_of p table) t s in
        let prefix : table.kind ≡ Prefix = ap (λ (u : Terms). u.kind) same ∙ kind in
        let key = subst (λ (k : Kind). HasKey p k table) prefix (is table refl).key in
        sym (ap (λ (u : Terms). length u.widths) same) ∙ length-map table.key (width_of p) ∙ key.1

    what_by : (what : What) → terms_at p what ≡ Some t → length t.widths ≡ 1
    what_by (Apply k) s = table_by (slice_get p.tables k) (λ table at. All-slice_get (IsTable p) p.tables k table h.tables at) s
    what_by (Gate f test) s = cc

    by : (o : Option Node) → option_map (λ (node : Node). terms_at p node.what) o ≡ Some (Some t) → length t.widths ≡ 1
    by None s = cc
    by (Some x) s = what_by x.what (same_Some (terms_at p x.what) (Some t) s)

told : (tables : List AppliedTable) (es : List Entry) (ls : List (ℕ × List ℕ)) → reading tables es ls ≡ Err NoMemory → ⊥
told tables es [] e = cc
told tables es (l ∷ ls) e = by (entry_of tables es l.1) (λ x. told tables (es ++ x ∷ []) ls) e
  where
    by : (o : Result Entry ℕ) → ((x : Entry) → reading tables (es ++ x ∷ []) ls ≡ Err NoMemory → ⊥) → line_then l.0 o (λ x. reading tables (es ++ x ∷ []) ls) ≡ Err NoMemory → ⊥
    by (Err code) more i = cc
    by (Ok x) more i = more x i

pub entries_law : (p : Program) (text : List ℕ) (lists : List (List Entry)) → IsProgram p → entries_of p text ≡ Ok lists → AreEntries p lists
entries_law p text lists h e = by (reading (applied_tables p) [] (numbered_lines 1 text)) refl e
  where
    by : (o : Result (List Entry) EntryFault) → reading (applied_tables p) [] (numbered_lines 1 text) ≡ o → lists_or_fault (length p.nodes) o ≡ Ok lists → AreEntries p lists
    by (Err fault) s i = cc
    by (Ok es) s i =
        let terms = node_terms p in
        let fit : All (Fit terms) (applied_tables p) = λ k d lt. (are_applied p k d lt, have_params p k d lt) in
        let read : AreRead terms es = reading_law terms (applied_tables p) [] es (numbered_lines 1 text) fit (none_read terms) s in
        let nodes : length terms ≡ length p.nodes = length-map p.nodes (λ (node : Node). terms_at p node.what) in
        subst (AreEntriesFor terms) (ap (λ (k : ℕ). by_node k es) nodes ∙ same_Ok (by_node (length p.nodes) es) lists i) (lists_law terms es read (one_prefix p h))

-- no text is refused for want of memory
pub never_memory : (p : Program) (text : List ℕ) → entries_of p text ≡ Err NoMemory → ⊥
never_memory p text e = by (reading (applied_tables p) [] (numbered_lines 1 text)) refl e
  where
    by : (o : Result (List Entry) EntryFault) → reading (applied_tables p) [] (numbered_lines 1 text) ≡ o → lists_or_fault (length p.nodes) o ≡ Err NoMemory → ⊥
    by (Ok es) s i = cc
    by (Err (At code line)) s i = cc
    by (Err NoMemory) s i = told (applied_tables p) [] (numbered_lines 1 text) s
