-- What the law of outcomes rests on holds where a configuration's units are those of a program and its cells hold the entries.
use Rattle.std.proofs.Common.{◌≡◌, ℕ, zero, suc, ◌+◌, ◌<◌, ◌≤◌, List, [], ◌∷◌, Option, Some, None, length, map, take, refl, sym, ap, ◌∙◌, subst, ◌⊎◌, inr, arith, below_more}
use Rattle.std.specs.Prelude.{option_and_then, option_map, replicate, slice_get, slice_index, unwrap_or}
use Rattle.std.proofs.lemmas.List.{length-map}
use Rattle.std.proofs.lemmas.List.Elements.{All-weaker}
use Rattle.std.proofs.lemmas.Option.{none-some, same_Some, slice_get-map, slice_get_within}
use Rattle.rmt_bits.proofs.ListLaws.{slice_get-alike, slice_get-item}
use Rattle.rmt_bits.specs.declared.lane.Lane.{Lane}
use Rattle.rmt_refine.specs.Types.{Program, Table, Node, Guard, What, Config}
use Rattle.rmt_ast.specs.declared.program.What.TheVariants.{Apply, Gate}
use Rattle.rmt_ast.specs.declared.entry.Entry.{Entry}
use Rattle.rmt_ast.specs.Control.{run}
use Rattle.rmt_ast.specs.EntryLists.{AreEntries, AreEntriesAt, AreTableEntries, terms_at, terms_of}
use Rattle.rmt_ast.specs.Lookup.{hit_of}
use Rattle.rmt_ast.specs.State.{IsState, joined}
use Rattle.rmt_ast.specs.WellFormed.{IsProgram, IsWhat}
use Rattle.rmt_ast.proofs.RunStateLaws.{run_from_keeps}
use Rattle.rmt_pack.specs.declared.placement.Part.{Part}
use Rattle.rmt_pack.specs.Placements.{quanta_in}
use Rattle.rmt_refine.specs.declared.map.CellOf.{CellOf}
use Rattle.rmt_refine.specs.View.{View}
use Rattle.rmt_refine.specs.Units.{UnitsCarried, applied, last_stage, table_at}
use Rattle.rmt_refine.specs.Cells.{CellsCarried}
use Rattle.rmt_refine.specs.LookUps.{FindsAs}
use Rattle.rmt_refine.specs.Outcomes.{ChildrenFollow, IsSetIn, TableSetIn, entries_at, run_before}
use Rattle.rmt_refine.proofs.NodeLaws.{stands_in_last}
use Rattle.rmt_pack.proofs.PartLaws.{and_at, and_from, then_some}
use Rattle.rmt_refine.proofs.RunLaws.{is_earlier, outcome_at}
use Rattle.rmt_refine.proofs.StageLaws.{IsRun, stands_where_set}
use Rattle.rmt_refine.proofs.TheLaw.{look_up_law, table_entries}

-- ---- the state before each node is one

-- the list of each node
pub list_at : (p : Program) (lists : List (List Entry)) (n : ℕ) (node : Node) → AreEntries p lists → slice_get p.nodes n ≡ Some node
    → (slice_get lists n ≡ Some (entries_at lists n)) × AreEntriesAt n (entries_at lists n) (terms_at p node.what)
list_at p lists n node entries at =
    let terms = map (λ (x : Node). terms_at p x.what) p.nodes in
    let there = slice_get-alike p.nodes lists n node (entries.for_each_node ∙ length-map p.nodes (λ (x : Node). terms_at p x.what)) at in
    let own : there.0 ≡ entries_at lists n = sym (ap (λ o. unwrap_or o []) there.1) in
    let known : slice_get terms n ≡ Some (terms_at p node.what) =
    slice_get-map (λ (x : Node). terms_at p x.what) p.nodes n ∙ ap (option_map (λ (x : Node). terms_at p x.what)) at in (
      there.1 ∙ ap Some own,
      subst (λ es. AreEntriesAt n es (terms_at p node.what)) own
          (and_at (slice_get terms n) (AreEntriesAt n there.0) (terms_at p node.what) known (entries.each n there.0 there.1)),
    )

pub own_entries : (p : Program) (lists : List (List Entry)) (n : ℕ) (t : Table) → AreEntries p lists → table_at p n ≡ Some t → AreTableEntries n (entries_at lists n) (terms_of p t)
own_entries p lists n t entries at =
    let node = then_some (λ (x : Node). applied p x.what) (slice_get p.nodes n) t at in
    table_entries p lists n t (entries_at lists n) entries at (list_at p lists n node.0 entries node.1).0

take_get : {X : Type 0} (xs : List X) (n i : ℕ) (x : X) → slice_get (take n xs) i ≡ Some x → slice_get xs i ≡ Some x
take_get [] zero i x e = absurd (none-some x e)
take_get [] (suc n) i x e = absurd (none-some x e)
take_get (y ∷ ys) zero i x e = absurd (none-some x e)
take_get (y ∷ ys) (suc n) zero x e = e
take_get (y ∷ ys) (suc n) (suc i) x e = take_get ys n i x e

pub state_before : (p : Program) (lists : List (List Entry)) (s : List ℕ) (n : ℕ) → IsProgram p → AreEntries p lists → IsState p s → IsState p (run_before p lists s n).state
state_before p lists s n program entries state =
    run_from_keeps p lists program 0 (take n p.nodes) (record { state = s; outcomes = replicate (length p.nodes) 0; hits = [] })
    (λ i node e.
    let none_more : i ≡ 0 + i = omega arith in
    subst (λ m. AreEntriesAt m (entries_at lists m) (terms_at p node.what)) none_more (list_at p lists i node entries (take_get p.nodes n i node e)).1) state

-- ---- where outcomes are set

none_yet : (f : ℕ → ℕ) (a : ℕ) → ((i : ℕ) → i < a → f i ≡ 0) → f a ≡ 0 → (i : ℕ) → i < a + 1 → f i ≡ 0
none_yet f a none here = below_more (λ i. f i ≡ 0) a none here

least_step : (f : ℕ → ℕ) (a x : ℕ) → f a ≡ x → ((i : ℕ) → i < a → f i ≡ 0) → (((i : ℕ) → i < a + 1 → f i ≡ 0) → (j : ℕ) × (0 < f j) × ((i : ℕ) → i < j → f i ≡ 0))
    → (j : ℕ) × (0 < f j) × ((i : ℕ) → i < j → f i ≡ 0)
least_step f a zero e none rest = rest (none_yet f a none e)
least_step f a (suc x) e none rest = (a, omega (arith, e), none)

least_from : (f : ℕ → ℕ) (d a : ℕ) → ((i : ℕ) → i < a → f i ≡ 0) → 0 < f (a + d) → (j : ℕ) × (0 < f j) × ((i : ℕ) → i < j → f i ≡ 0)
least_from f zero a none some = let e : a + 0 ≡ a = omega arith in (a, subst (λ m. 0 < f m) e some, none)
least_from f (suc d) a none some =
    let e : a + suc d ≡ a + 1 + d = omega arith in
    least_step f a (f a) refl none (λ more. least_from f d (a + 1) more (subst (λ m. 0 < f m) e some))

-- the least number at which a function isn't 0
least : (f : ℕ → ℕ) (k : ℕ) → 0 < f k → (j : ℕ) × (0 < f j) × ((i : ℕ) → i < j → f i ≡ 0)
least f k some = let e : k ≡ 0 + k = omega arith in least_from f k 0 (λ i lt. absurd (omega (arith, lt))) (subst (λ m. 0 < f m) e some)

module _ (p : Program) (lists : List (List Entry)) (places : List (List Lane)) (parts : List Part) (starts : List ℕ) (c : Config) (v : View) (cells : List CellOf) (s : List ℕ)
    (program : IsProgram p) (entries : AreEntries p lists) (state : IsState p s) (units : UnitsCarried p places parts starts c) (carried : CellsCarried p c v cells lists)
    (follow : ChildrenFollow p parts) where
  abbrev state_at : ℕ → List ℕ
  state_at n = (run_before p lists s n).state

  finds_at : (n : ℕ) (t : Table) → table_at p n ≡ Some t → FindsAs p c v n t (joined p t.key (state_at n)) (hit_of t.kind t.key (entries_at lists n) (state_at n))
  finds_at n t at =
      let node = then_some (λ (x : Node). applied p x.what) (slice_get p.nodes n) t at in
      let list = list_at p lists n node.0 entries node.1 in
      look_up_law p lists places parts starts c v cells n t (entries_at lists n) (state_at n) program entries (state_before p lists s n program entries state) at list.0 units
      (carried.tables n t (entries_at lists n) at list.0)

  table_set : (n : ℕ) (t : Table) (o : Option Entry) → FindsAs p c v n t (joined p t.key (state_at n)) o
      → (k : ℕ) × TableSetIn p parts c v n t (joined p t.key (state_at n)) k o
  table_set n t None finds = (last_stage parts n, refl)
  table_set n t (Some e) finds = (finds.k, (finds, refl))

  node_set : (n : ℕ) (node : Node) (w : What) → slice_get p.nodes n ≡ Some node → node.what ≡ w → (k : ℕ) × IsSetIn p parts c v (entries_at lists n) (state_at n) n w k
  node_set n node (Gate field test) at is =
      let some = stands_in_last parts n
      (All-weaker (λ (x : Part). (x.node < length p.nodes) × (x.stage < length c.stages) × (0 < x.quanta)) (λ (x : Part). 0 < x.quanta) (λ x h. h.2) parts units.no_other)
      (units.each_node n (slice_get_within p.nodes n node at)) in
      let r = least (quanta_in parts n) (last_stage parts n) some in
      (r.0, (r.1, r.2))
  node_set n node (Apply i) at is =
      let within : i < length p.tables = subst (IsWhat p) is (program.nodes n node at).what in
      let t = slice_get-item p.tables i within in
      let at_table : table_at p n ≡ Some t.0 = ap (option_and_then (λ (x : Node). applied p x.what)) at ∙ ap (applied p) is ∙ t.1 in
      let r = table_set n t.0 (hit_of t.0.kind t.0.key (entries_at lists n) (state_at n)) (finds_at n t.0 at_table) in
      (r.0, and_from (slice_get p.tables i) (λ (x : Table). TableSetIn p parts c v n x (joined p x.key (state_at n)) r.0 (hit_of x.kind x.key (entries_at lists n) (state_at n))) t.0 t.1 r.1)

  choose_by : (n : ℕ) (o : Option Node) → slice_get p.nodes n ≡ o
      → (k : ℕ) × ((node : Node) → slice_get p.nodes n ≡ Some node → IsSetIn p parts c v (entries_at lists n) (state_at n) n node.what k)
  choose_by n None e = (0, λ node at. absurd (none-some node (sym e ∙ at)))
  choose_by n (Some x) e =
      let r = node_set n x x.what e refl in
      (r.0, λ node at. subst (λ (y : Node). IsSetIn p parts c v (entries_at lists n) (state_at n) n y.what r.0) (same_Some x node (sym e ∙ at)) r.1)

  -- the stage in which the outcome of a node is set
  pub set_at : ℕ → ℕ
  set_at n = (choose_by n (slice_get p.nodes n) refl).0

  set_there : (n : ℕ) (node : Node) → slice_get p.nodes n ≡ Some node → IsSetIn p parts c v (entries_at lists n) (state_at n) n node.what (set_at n)
  unfolding set_at
  set_there n node at = (choose_by n (slice_get p.nodes n) refl).1 node at

  parent_first : (n : ℕ) (node : Node) (g : Guard) → slice_get p.nodes n ≡ Some node → node.guard ≡ Some g
      → (g.parent < n) × ((k : ℕ) → 0 < quanta_in parts n k → (slice_index (run p lists s).outcomes g.parent ≡ 0) ⊎ (set_at g.parent ≤ k))
  parent_first n node g at is =
      let lt = is_earlier n node.guard g (program.nodes n node at).guard is in
      let room : g.parent < length p.nodes = omega (arith, lt, slice_get_within p.nodes n node at) in
      let q = slice_get-item p.nodes g.parent room in (
        lt,
        λ k stands.
            inr (follow n node g at is (set_at g.parent) k
            (stands_where_set p places parts starts c v (entries_at lists) state_at (run p lists s).outcomes set_at g.parent (set_at g.parent) q.0.what units room (set_there g.parent q.0 q.1)) stands),
      )

  -- so the law of outcomes holds
  pub is_run : IsRun p places parts starts c v (entries_at lists) state_at (run p lists s).outcomes set_at
  is_run = record {
    units = units;
    given = λ n node at. outcome_at p lists s n node program at;
    sets = λ n node at goes. set_there n node at;
    finds = finds_at;
    parents = parent_first;
  }
