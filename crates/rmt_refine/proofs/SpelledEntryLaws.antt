-- A cell that holds an entry of a table spells that entry with the table's names; in a prefix table its mask has a length.
use Rattle.std.proofs.Common.{◌≡◌, ℕ, ◌-◌, ◌<◌, ◌∙◌, true, Some, List, length, map, refl, sym, ap, subst, arith}
use Rattle.std.specs.Prelude.{is_some, slice_get, slice_index, sum, unwrap_or}
use Rattle.std.proofs.lemmas.List.{length-map}
use Rattle.rmt_bits.proofs.AllLaws.{All-slice_get}
use Rattle.rmt_ast.specs.declared.entry.Entry.{Entry}
use Rattle.rmt_ast.specs.declared.program.Kind.TheVariants as kind
use Rattle.rmt_ast.specs.EntryLists.{AreEntries, AreTableEntries, HasRank, IsEntry, params_of, terms_of}
use Rattle.rmt_ast.specs.Naming.{ranks_of, table_named}
use Rattle.rmt_ast.specs.State.{width_of}
use Rattle.rmt_ast.specs.WellFormed.{HasKey, IsProgram, IsTable}
use Rattle.rmt_config.specs.Cells.{Content, code_of}
use Rattle.rmt_config.specs.NamesForm.{args_of_data, entry_in, held_by, params_in, prefix_length, rank_in, rank_told, tests_of_key}
use Rattle.rmt_config.specs.Rooms.{PartAt, tests_as_one}
use Rattle.rmt_refine.specs.Cells.{HoldsEntry}
use Rattle.rmt_refine.specs.Units.{applied, table_at}
use Rattle.rmt_refine.proofs.TheLaw.{its_table, table_entries}
use Rattle.rmt_refine.specs.Types.{CellNumber, Config, Kind, Node, Program, Table, Test}
use Rattle.rmt_refine.proofs.EntryLaws.{action_is}
use Rattle.rmt_pack.proofs.SpelledFieldLaws.{args_spelled, params_told, tests_spelled}
use Rattle.rmt_refine.proofs.SpelledRankLaws.{prefix_told, rank_is_told}
use Rattle.rmt_pack.proofs.PartLaws.{then_some}

-- an entry is one with the same facts
entry_is : (e : Entry) (table number : ℕ) (tests : List Test) (rank action : ℕ) (args : List ℕ)
    → table ≡ e.table → number ≡ e.number → tests ≡ e.tests → rank ≡ e.rank → action ≡ e.action → args ≡ e.args
    → ◌≡◌ {A = Entry} (record { table = table; number = number; tests = tests; rank = rank; action = action; args = args }) e
entry_is e table number tests rank action args of_table of_number of_tests of_rank of_action of_args = rw (of_table, of_number, of_tests, of_rank, of_action, of_args) refl

-- entry e of the list of node n, which applies table t, and what a cell holds of it
module _ (p : Program) (lists : List (List Entry)) (program : IsProgram p) (entries : AreEntries p lists) (n : ℕ) (t : Table) (es : List Entry) (table : table_at p n ≡ Some t)
    (list : slice_get lists n ≡ Some es) (i : ℕ) (e : Entry) (at : slice_get es i ≡ Some e) (first number : ℕ) (x : Content)
    (holds : HoldsEntry p t (map (width_of p) t.key) first e number x) where
  are : AreTableEntries n es (terms_of p t)
  are = table_entries p lists n t es entries table list

  is : IsEntry n (terms_of p t) e
  is = All-slice_get (IsEntry n (terms_of p t)) es i e are.each at

  table_is : IsTable p t
  table_is = let node = then_some (λ (x : Node). applied p x.what) (slice_get p.nodes n) t table in its_table p node.0.what t node.2 program.tables

  action_lt : e.action < length t.actions
  action_lt = (action_is p t e n is).within

  tests : tests_of_key (map (width_of p) t.key) x.key x.mask ≡ e.tests
  tests =
      let ws = map (width_of p) t.key in
      ap (λ k. tests_of_key ws k x.mask) holds.key ∙ ap (tests_of_key ws (tests_as_one (λ u. u.value) ws e.tests)) holds.mask ∙ tests_spelled ws e.tests is.tests

  action : code_of x.head - first ≡ e.action
  action = let code = holds.code in omega (arith, code)

  args : args_of_data (params_in (table_named p n es t) (code_of x.head - first)) x.held ≡ e.args
  args =
      ap (λ a. args_of_data (params_in (table_named p n es t) a) x.held) action
      ∙ ap (λ ws. args_of_data ws x.held) (params_told p n es t e.action action_lt)
      ∙ args_spelled (params_of p (slice_index t.actions e.action)) e.args x.held (action_is p t e n is).fits holds.held

  -- the length of a prefix
  length_is : t.kind ≡ kind.Prefix → prefix_length (sum (map (width_of p) t.key)) x.mask ≡ Some e.rank
  length_is prefix =
      let ws = map (width_of p) t.key in
      let key = subst (λ (k : Kind). HasKey p k t) prefix table_is.key in
      let own = subst (λ (k : Kind). HasRank k ws e) prefix is.rank in
      ap (prefix_length (sum ws)) holds.mask ∙ prefix_told ws e.tests e.rank (length-map t.key (width_of p) ∙ key.1) own

  rank : (k : Kind) → t.kind ≡ k → rank_in k (table_named p n es t) x.mask e.number ≡ e.rank
  rank kind.Keyless keyless =
      let none : length t.actions ≡ 0 = ap length (subst (λ (k : Kind). HasKey p k t) keyless table_is.key).actions in
      absurd (omega (arith, action_lt, none))
  rank kind.Exact exact = sym (subst (λ (k : Kind). HasRank k (map (width_of p) t.key) e) exact is.rank).1
  rank kind.Prefix prefix = ap (λ o. unwrap_or o 0) (length_is prefix)
  rank kind.Ternary ternary = ap (λ (k : Kind). rank_told (ranks_of k es) e.number) ternary ∙ rank_is_told es i e are.rising at

  -- a cell that holds e, of a part whose first instruction is the one from which the entry's code counts, and with the number of e, spells e
  pub entry_spelled : (c : Config) (part : PartAt) (cell : CellNumber) → held_by c part cell ≡ x → part.first ≡ first → cell.number ≡ e.number
      → entry_in c (table_named p n es t) part cell ≡ e
  entry_spelled c part cell content own same =
      let named = table_named p n es t in
      let spelled : Content → ℕ → ℕ → Entry = λ y f m. record {
        table = n;
        number = m;
        tests = tests_of_key named.keys y.key y.mask;
        rank = rank_in t.kind named y.mask m;
        action = code_of y.head - f;
        args = args_of_data (params_in named (code_of y.head - f)) y.held;
      } in
      ap (λ y. spelled y part.first cell.number) content ∙ ap (λ f. spelled x f cell.number) own ∙ ap (spelled x first) same
      ∙ entry_is e n e.number (tests_of_key named.keys x.key x.mask) (rank_in t.kind named x.mask e.number) (code_of x.head - first)
      (args_of_data (params_in named (code_of x.head - first)) x.held) (sym is.table) refl tests (rank t.kind refl) action args

  -- the mask of a prefix has a length
  pub prefix_spelled : t.kind ≡ kind.Prefix → is_some (prefix_length (sum (map (width_of p) t.key)) x.mask) ≡ true
  prefix_spelled prefix = ap is_some (length_is prefix)
