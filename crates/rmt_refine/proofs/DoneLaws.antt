-- What the instruction that runs for a node does to the words, and what the node leaves of the state.
use Rattle.std.proofs.Common.{◌≡◌, ℕ, ◌+◌, ◌==◌, cond, List, [], Option, Some, None, map, refl, sym, ap, ◌∙◌, subst, arith}
use Rattle.std.specs.Prelude.{Contains, option_map, slice_get, slice_index, unwrap_or}
use Rattle.std.specs.List.{AllZip}
use Rattle.std.proofs.lemmas.Bool.{eqb-true}
use Rattle.std.proofs.lemmas.List.{length-map}
use Rattle.std.proofs.lemmas.Option.{none-some, slice_get-get_or, slice_get-map, slice_get_within}
use Rattle.rmt_bits.specs.declared.lane.Lane.{Lane}
use Rattle.rmt_refine.specs.Types.{Program, Action, Table, Node, What, Config, Stage, Operation}
use Rattle.rmt_ast.specs.declared.program.What.TheVariants.{Apply, Gate}
use Rattle.rmt_ast.specs.declared.entry.Entry.{Entry}
use Rattle.rmt_ast.specs.Control.{Run, act_of, applied_table, done_by, run}
use Rattle.rmt_ast.specs.EntryLists.{AreEntries, AreTableEntries, IsEntry, params_of, terms_of}
use Rattle.rmt_ast.specs.Lookup.{hit_of}
use Rattle.rmt_ast.specs.Places.{lanes_of}
use Rattle.rmt_ast.specs.State.{IsState}
use Rattle.rmt_ast.specs.WellFormed.{Fits, IsProgram}
use Rattle.rmt_phv.specs.Places.{written_by}
use Rattle.rmt_deps.specs.Edges.{of_action, of_node, of_table, read_by, reads_of, words_of_fields, writes_of}
use Rattle.rmt_config.specs.Instructions.{first_code}
use Rattle.rmt_config.specs.Life.{Running, Words, op_on}
use Rattle.rmt_refine.specs.declared.map.Map.{Map}
use Rattle.rmt_refine.specs.View.{View}
use Rattle.rmt_refine.specs.Carries.{CarriesIn}
use Rattle.rmt_refine.specs.Code.{DoesAction, DoesDefault, TableCode, WritesWordsOf, assigned_lanes}
use Rattle.rmt_config.specs.Effects.{Hold, words_after, ChangesOnly}
use Rattle.rmt_refine.specs.Outcomes.{entries_at, run_before}
use Rattle.rmt_refine.specs.Units.{applied, table_at}
use Rattle.rmt_refine.proofs.CarriedLaws.{set_in}
use Rattle.rmt_refine.proofs.FieldLaws.{action_run, applied_state, args_run, fields_listed}
use Rattle.rmt_pack.proofs.FindLaws.{found_passes}
use Rattle.rmt_refine.proofs.LookUpLaws.{hit_some}
use Rattle.rmt_refine.proofs.OutcomeLaws.{own_entries}
use Rattle.rmt_refine.proofs.PartLaws.{some_and}
use Rattle.rmt_pack.proofs.PartLaws.{then_some}
use Rattle.rmt_refine.proofs.RunLaws.{guard_at, run_next}
use Rattle.rmt_refine.proofs.RunningLaws.{ActsIn, RunsFor, RunsInstruction}
use Rattle.rmt_bits.proofs.MemberLaws.{Contains-map, Contains-unmap, Contains-flat_map, from_flat_map}
use Rattle.std.proofs.lemmas.List.Elements.{All-contains}

-- ---- members

-- a field that is written has its lanes in words that are written
pub lane_touched : (places : List (List Lane)) (fields : List ℕ) (f : ℕ) (l : Lane) → Contains fields f → Contains (lanes_of places f) l → Contains (words_of_fields places fields) l.word
lane_touched places fields f l in_f in_l =
    Contains-flat_map (λ g. map (λ (x : Lane). x.word) (lanes_of places g)) fields f l.word in_f (Contains-map (λ (x : Lane). x.word) (lanes_of places f) l in_l)

-- ---- the table of a node

-- a node applies a table
record IsApplied (p : Program) (n : ℕ) (t : Table) : Type 0 where
  node : Node
  number : ℕ
  at : slice_get p.nodes n ≡ Some node
  what_is : node.what ≡ Apply number
  table : slice_get p.tables number ≡ Some t

by_what : (p : Program) (n : ℕ) (t : Table) (node : Node) (w : What) → slice_get p.nodes n ≡ Some node → node.what ≡ w → applied p w ≡ Some t → IsApplied p n t
by_what p n t node (Apply i) at is e = record { node = node; number = i; at = at; what_is = is; table = e }
by_what p n t node (Gate field test) at is e = absurd (none-some t e)

is_applied : (p : Program) (n : ℕ) (t : Table) → table_at p n ≡ Some t → IsApplied p n t
is_applied p n t e =
    let r = then_some (λ (x : Node). applied p x.what) (slice_get p.nodes n) t e in
    by_what p n t r.0 r.0.what r.1 refl r.2

-- ---- at a run

module _ (p : Program) (lists : List (List Entry)) (m : Map) (c : Config) (v : View) (s : List ℕ) (program : IsProgram p) (entries : AreEntries p lists) (state : IsState p s)
    (carries : CarriesIn p lists m c v) where
  -- the state before a node
  abbrev pub state_at : ℕ → List ℕ
  state_at n = (run_before p lists s n).state

  -- the entry that a node's table hits there
  abbrev pub hit_at : ℕ → Table → Option Entry
  hit_at n t = hit_of t.kind t.key (entries_at lists n) (state_at n)

  -- a node acts in a stage, and an instruction runs for it
  abbrev pub Acts : ℕ → ℕ → Table → Type 0
  Acts = ActsIn p m.places m.placement.parts m.starts c v (entries_at lists) state_at (run p lists s).outcomes (set_in p lists m c v s program entries state carries)

  abbrev pub Runs : ℕ → ℕ → Running → Type 0
  Runs = RunsFor p m.places m.placement.parts m.starts c v (entries_at lists) state_at (run p lists s).outcomes (set_in p lists m c v s program entries state carries)

  abbrev RunsBy : Table → ℕ → Stage → Option Entry → Running → Type 0
  RunsBy =
      RunsInstruction p m.places m.placement.parts m.starts c v (entries_at lists) state_at (run p lists s).outcomes (set_in p lists m c v s program entries state carries)

  -- an instruction does what the table does with what it hit: in every vector that holds a state, and nowhere else
  pub record DoesWith (t : Table) (o : Option Entry) (r : Running) : Type 0 where
    pub acts : (x : List ℕ) (w : Words) → IsState p x → Hold m.places w x → Hold m.places (words_after r.ops r.held w) (act_of p (action_run t o) (args_run t o) x)
    pub others : ChangesOnly (assigned_lanes p m.places (action_run t o)) r.ops
    pub words : WritesWordsOf (assigned_lanes p m.places (action_run t o)) r.ops

  -- what node n does at its hit
  abbrev pub DoesFor : ℕ → Table → Running → Type 0
  DoesFor n t r = DoesWith t (hit_at n t) r

  does_with : (n first : ℕ) (t : Table) (r : Running) (stage : Stage) (o : Option Entry) → TableCode p m.places t first stage → AreTableEntries n (entries_at lists n) (terms_of p t)
      → hit_at n t ≡ o → RunsBy t first stage o r → DoesWith t o r
  does_with n first t r stage None code are hit runs =
      let d = subst (DoesDefault p m.places t.default t.args) (sym runs) code.default in
      record { acts = λ x w is hold. d.acts x w r.held is hold; others = d.others; words = d.words }
  does_with n first t r stage (Some e) code are hit runs =
      let there = hit_some t.kind t.key (state_at n) (entries_at lists n) e hit in
      let is : IsEntry n (terms_of p t) e = All-contains (IsEntry n (terms_of p t)) (entries_at lists n) e are.each there.0.there in
      let params = some_and (slice_get (map (params_of p) t.actions) e.action) (λ ps. AllZip Fits ps e.args) is.action in
      let within = slice_get_within (map (params_of p) t.actions) e.action params.0 params.1 in
      let listed = slice_get-get_or t.actions e.action 0 (omega (arith, within, length-map t.actions (params_of p))) in
      let its_params : slice_get (map (params_of p) t.actions) e.action ≡ Some (params_of p (slice_index t.actions e.action)) =
      slice_get-map (params_of p) t.actions e.action ∙ ap (option_map (params_of p)) listed in
      let fits = subst (λ ps. AllZip Fits ps e.args) (ap (λ q. unwrap_or q []) (sym params.1 ∙ its_params)) params.2 in
      let d = subst (DoesAction p m.places (slice_index t.actions e.action)) (sym runs.0) (code.actions e.action (slice_index t.actions e.action) listed) in
      record { acts = λ x w is hold. d.acts x e.args w r.held is fits runs.1 hold; others = d.others; words = d.words }

  -- the instruction that runs for a node does what the node does
  pub does_for : (k n : ℕ) (r : Running) (ran : Runs k n r) → DoesFor n ran.table r
  does_for k n r ran =
      let part = ran.part in
      let table = ran.acts.table_is in
      does_with n (first_code ran.stage ran.place) ran.table r ran.stage (hit_at n ran.table)
      (carries.code n k ran.place ran.table ran.stage ran.slot table part.stage_is part.slot_is part.node_is) (own_entries p lists n ran.table entries table) refl ran.runs_it

  -- the state behind a node that acts
  pub state_after : (k n : ℕ) (t : Table) → Acts k n t → state_at (n + 1) ≡ act_of p (action_run t (hit_at n t)) (args_run t (hit_at n t)) (state_at n)
  state_after k n t acts =
      let is = is_applied p n t acts.table_is in
      let before = run_before p lists s n in
      let es = entries_at lists n in
      ap (λ (r : Run). r.state) (run_next p lists s n is.node is.at)
      ∙ ap (λ b. (cond b (done_by p es n is.node.what before) before).state) (guard_at p lists s n is.node program is.at ∙ acts.goes is.node is.at)
      ∙ ap (λ w. (done_by p es n w before).state) is.what_is
      ∙ ap (λ o. (unwrap_or (option_map (λ (x : Table). applied_table p n x (hit_of x.kind x.key es before.state) before) o) before).state) is.table
      ∙ applied_state p n t (hit_at n t) before

  -- what the action that a node runs touches is among what the node's actions do
  fields_at : (fields : Action → List ℕ) (n : ℕ) (t : Table) (f : ℕ) → table_at p n ≡ Some t → Contains (of_action p fields (action_run t (hit_at n t))) f
      → Contains (of_node p (of_table p fields) (λ field. []) n) f
  fields_at fields n t f e there =
      let is = is_applied p n t e in
      fields_listed p fields n is.number is.node t (entries_at lists n) (state_at n) f is.at is.what_is is.table (own_entries p lists n t entries e) there

  pub written_listed : (n : ℕ) (t : Table) (f : ℕ) → table_at p n ≡ Some t → Contains (of_action p written_by (action_run t (hit_at n t))) f → Contains (writes_of p n) f
  written_listed n t f e there = fields_at written_by n t f e there

  pub read_listed : (n : ℕ) (t : Table) (f : ℕ) → table_at p n ≡ Some t → Contains (of_action p read_by (action_run t (hit_at n t))) f → Contains (reads_of p n) f
  read_listed n t f e there = fields_at read_by n t f e there

  -- its instruction has operations on words of fields that the node writes, and on no other
  pub touches : (n : ℕ) (t : Table) (r : Running) → DoesFor n t r → table_at p n ≡ Some t → (w : ℕ) (op : Operation) → op_on w r.ops ≡ Some op
      → Contains (words_of_fields m.places (writes_of p n)) w
  touches n t r does e w op on =
      let found = found_passes (λ (x : Operation). x.word == w) r.ops op on in
      let lanes = assigned_lanes p m.places (action_run t (hit_at n t)) in
      let own = All-contains (λ (x : Operation). Contains (map (λ (l : Lane). l.word) lanes) x.word) r.ops op does.words found.0 in
      let lane = Contains-unmap (λ (l : Lane). l.word) lanes op.word own in
      let field = from_flat_map (lanes_of m.places) (of_action p written_by (action_run t (hit_at n t))) lane.0 lane.1 in
      subst (Contains (words_of_fields m.places (writes_of p n))) (lane.2 ∙ eqb-true op.word w found.1)
      (lane_touched m.places (writes_of p n) field.0 lane.0 (written_listed n t field.0 e field.1) field.2)
