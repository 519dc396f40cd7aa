-- Which instructions run in a stage and what is counted in it: those of the tables whose outcome is set there, and their hits.
use Rattle.std.proofs.Common.{◌≡◌, ℕ, zero, suc, ◌+◌, ◌<◌, ◌≤◌, Bool, true, false, ◌==◌, cond, List, [], ◌∷◌, ◌++◌, Option, Some, None, length, map, refl, sym, ap, ◌∙◌, subst, ◌⊎◌, inl, inr, arith}
use Rattle.std.specs.Prelude.{nat_lt, option_and_then, option_map, slice_get, slice_index, slice_set, unwrap_or}
use Rattle.std.proofs.lemmas.Bool.{both_ways, eq-eqb, eqb-true, lt-ltb}
use Rattle.std.proofs.lemmas.Option.{none-some, same_Some, slice_get_within}
use Rattle.rmt_bits.specs.declared.lane.Lane.{Lane}
use Rattle.rmt_refine.specs.Types.{Program, Table, Node, What, Config, Stage, Unit, SlotUnit}
use Rattle.rmt_ast.specs.declared.program.What.TheVariants as what
use Rattle.rmt_ast.specs.declared.entry.Entry.{Entry}
use Rattle.rmt_ast.specs.Control.{runs}
use Rattle.rmt_ast.specs.Lookup.{hit_of}
use Rattle.rmt_ast.specs.State.{joined}
use Rattle.rmt_config.specs.Instructions.{first_code}
use Rattle.rmt_config.specs.declared.config.Unit.TheVariants.{Gate, Slot}
use Rattle.rmt_config.specs.Cells.{Found}
use Rattle.rmt_config.specs.Life.{Acts, Words, acts_of, gate_passes, looked_up, slot_acts, unit_acts}
use Rattle.rmt_config.specs.Life.{runs as chip_runs}
use Rattle.rmt_pack.specs.declared.placement.Part.{Part}
use Rattle.rmt_pack.specs.Placements.{quanta_in}
use Rattle.rmt_refine.specs.View.{View, look_in}
use Rattle.rmt_refine.specs.Units.{DoesAs, TableCarried, applied, guard_in, last_stage, table_at}
use Rattle.rmt_config.specs.TableForm.{node_of}
use Rattle.rmt_refine.specs.LookUps.{FindsAs}
use Rattle.rmt_refine.specs.Outcomes.{TableSetIn}
use Rattle.rmt_pack.proofs.PartLaws.{IsPart, and_at, then_some}
use Rattle.rmt_refine.proofs.PartLaws.{slot_of_part}
use Rattle.rmt_config.specs.Life.{Counted, Running, code_at}
use Rattle.rmt_ast.specs.EntryLists.{params_of}
use Rattle.rmt_config.specs.Effects.{HasArguments}
use Rattle.rmt_refine.proofs.StageLaws.{AreSet, IsAt, applied_here, hit_here, miss_here, part_at, stands_where_set, IsRun, ReadsAs, StageReads, eqb_false, not_there, unit_law, unit_turn, kept_through}

-- ---- what one unit adds

-- the instructions that run, and the counts
abbrev pub made : Acts → List Running × List Counted
made a = (a.running, a.counted)

gate_adds : (b : Bool) (a : Acts) (x : List ℕ) → made (cond b (record a { outcomes = x }) a) ≡ made a
gate_adds true a x = refl
gate_adds false a x = refl

unit_stops : (c : Config) (v : View) (k : ℕ) (stage : Stage) (words : Words) (a : Acts) (u : Unit) → chip_runs (node_of u) (guard_in u) a.outcomes ≡ false
    → made (unit_acts (look_in c v) k stage words a u) ≡ made a
unit_stops c v k stage words a (Gate g) e = gate_adds (chip_runs g.node g.guard a.outcomes) a (slice_set a.outcomes g.node (cond (gate_passes words g.tests) 2 1))
unit_stops c v k stage words a (Slot s) e = ap (λ (b : Bool). made (cond b (slot_acts stage (first_code stage a.place) s (looked_up (look_in c v) k a.place words s) a) a)) e

slot_adds : (c : Config) (v : View) (k : ℕ) (stage : Stage) (words : Words) (a : Acts) (s : SlotUnit) (o : Option Found) → chip_runs s.node s.guard a.outcomes ≡ true
    → looked_up (look_in c v) k a.place words s ≡ o → made (unit_acts (look_in c v) k stage words a (Slot s)) ≡ made (slot_acts stage (first_code stage a.place) s o a)
slot_adds c v k stage words a s o e found =
    ap (λ (b : Bool). made (cond b (slot_acts stage (first_code stage a.place) s (looked_up (look_in c v) k a.place words s) a) a)) e ∙ ap (λ (f : Option Found). made (slot_acts stage (first_code stage a.place) s f a)) found

miss_adds : (stage : Stage) (first : ℕ) (s : SlotUnit) (a : Acts) → s.last ≡ true → made (slot_acts stage first s None a) ≡ (record { ops = code_at stage (first + s.actions); held = 0 } ∷ a.running, a.counted)
miss_adds stage first s a e = rw e refl

miss_adds_none : (stage : Stage) (first : ℕ) (s : SlotUnit) (a : Acts) → s.last ≡ false → made (slot_acts stage first s None a) ≡ made a
miss_adds_none stage first s a e = rw e refl

-- the number that a hit in a table counts
abbrev pub counted_hit : Table → Option Entry → List ℕ
counted_hit t None = []
counted_hit t (Some e) = cond t.counted (e.number ∷ []) []

abbrev pub count_of : ℕ → ℕ → Counted
count_of age n = record { number = n; age = age }

-- counts that are made in a stage
abbrev pub counts_in : Stage → List ℕ → List Counted
counts_in stage ns = map (count_of (stage.start + 8)) ns

count_adds : (b d : Bool) (n m age : ℕ) (old : List Counted) → b ≡ d → n ≡ m
    → cond b (count_of age n ∷ old) old ≡ map (count_of age) (cond d (m ∷ []) []) ++ old
count_adds b true n m age old e same = rw (e, same) refl
count_adds b false n m age old e same = rw e refl

hit_adds : (stage : Stage) (first : ℕ) (s : SlotUnit) (a : Acts) (t : Table) (e : Entry) (f : Found) → s.counted ≡ t.counted → f.number ≡ e.number
    → made (slot_acts stage first s (Some f) a) ≡ (record { ops = code_at stage f.code; held = f.held } ∷ a.running, counts_in stage (counted_hit t (Some e)) ++ a.counted)
hit_adds stage first s a t e f counted number =
    ap (λ (cs : List Counted). (record { ops = code_at stage f.code; held = f.held } ∷ a.running, cs))
    (count_adds s.counted t.counted f.number e.number (stage.start + 8) a.counted counted number)

-- ---- what a node counts

-- a node runs in a run with these outcomes
abbrev pub node_goes : Program → List ℕ → ℕ → Bool
node_goes p outcomes n = unwrap_or (option_map (λ (node : Node). runs node.guard outcomes) (slice_get p.nodes n)) false

-- what a table counts in a state
abbrev pub table_counts : List Entry → List ℕ → Option Table → List ℕ
table_counts es s o = unwrap_or (option_map (λ (t : Table). counted_hit t (hit_of t.kind t.key es s)) o) []

-- the number that node n counts: where it runs and hits an entry in a counted table
abbrev pub own_numbers : Program → (ℕ → List Entry) → (ℕ → List ℕ) → List ℕ → ℕ → List ℕ
own_numbers p entries state outcomes n = cond (node_goes p outcomes n) (table_counts (entries n) (state n) (table_at p n)) []

pub goes_at : (p : Program) (outcomes : List ℕ) (n : ℕ) (node : Node) → slice_get p.nodes n ≡ Some node → node_goes p outcomes n ≡ runs node.guard outcomes
goes_at p outcomes n node at = ap (λ o. unwrap_or (option_map (λ (x : Node). runs x.guard outcomes) o) false) at

module _ (p : Program) (places : List (List Lane)) (parts : List Part) (starts : List ℕ) (c : Config) (v : View) (entries : ℕ → List Entry) (state : ℕ → List ℕ) (outcomes : List ℕ) (set_in : ℕ → ℕ) where
  -- the facts of the run and of the outcomes before a unit
  abbrev TheRun : Type 0
  TheRun = IsRun p places parts starts c v entries state outcomes set_in

  abbrev SetBefore : ℕ → ℕ → List ℕ → Type 0
  SetBefore = AreSet p places parts starts c v entries state outcomes set_in

  abbrev UnitAt : ℕ → ℕ → ℕ → Stage → Unit → Node → Type 0
  UnitAt = IsAt p places parts starts c v entries state outcomes set_in

  abbrev Reads : Words → ℕ → What → Type 0
  Reads = ReadsAs p places parts starts c v entries state outcomes set_in

  -- what a table's node runs: the instruction of the entry that is hit, with its arguments, or the default's
  abbrev pub RunsInstruction : Table → ℕ → Stage → Option Entry → Running → Type 0
  RunsInstruction t first stage None r = r.ops ≡ code_at stage (first + length t.actions)
  RunsInstruction t first stage (Some e) r = (r.ops ≡ code_at stage (first + e.action)) × HasArguments (params_of p (slice_index t.actions e.action)) e.args r.held

  -- a node applies a table, runs, and has its outcome set in stage k
  pub record ActsIn (k n : ℕ) (t : Table) : Type 0 where
    pub table_is : table_at p n ≡ Some t
    pub set_here : set_in n ≡ k
    pub goes : (node : Node) → slice_get p.nodes n ≡ Some node → runs node.guard outcomes ≡ true

  -- an instruction that runs in stage k is that of node n
  pub record RunsFor (k n : ℕ) (r : Running) : Type 0 where
    pub place : ℕ
    pub stage : Stage
    pub slot : SlotUnit
    pub table : Table
    pub part : IsPart c n k place stage slot
    pub acts : ActsIn k n table
    pub runs_it : RunsInstruction table (first_code stage place) stage (hit_of table.kind table.key (entries n) (state n)) r

  -- what node n adds to the instructions that run in stage k: its own where it acts there, else none
  abbrev pub Adds : ℕ → ℕ → List Running → List Running → Type 0
  Adds k n old new = ((new ≡ old) × ((t : Table) → ActsIn k n t → ⊥)) ⊎ ((r : Running) × (new ≡ r ∷ old) × RunsFor k n r)

  -- what the unit of node n makes: its own instruction where it acts there, and what it counts, else nothing
  abbrev Makes : ℕ → ℕ → Stage → Acts → Acts → Type 0
  Makes k n stage a b =
      ((made b ≡ made a) × ((t : Table) → ActsIn k n t → ⊥))
      ⊎ ((r : Running) × (x : RunsFor k n r)
      × (made b ≡ (r ∷ a.running, counts_in stage (counted_hit x.table (hit_of x.table.kind x.table.key (entries n) (state n))) ++ a.counted)))

  -- the instructions of the nodes before number m that run in stage k, the last one first
  abbrev pub RanBefore : ℕ → ℕ → List Running → Type 0
  RanBefore k zero new = new ≡ []
  RanBefore k (suc m) new = (old : List Running) × RanBefore k m old × Adds k m old new

  abbrev is_going : ℕ → Bool
  is_going = node_goes p outcomes

  abbrev own : ℕ → List ℕ
  own = own_numbers p entries state outcomes

  -- what the nodes before number m count in stage k, the last one first
  abbrev pub counted_before : ℕ → Stage → ℕ → List Counted
  counted_before k stage zero = []
  counted_before k stage (suc m) = counts_in stage (cond (set_in m == k) (own m) []) ++ counted_before k stage m

  -- what the units of the nodes before number m have made
  abbrev HaveMade : ℕ → Stage → ℕ → Acts → Type 0
  HaveMade k stage m a = RanBefore k m a.running × (a.counted ≡ counted_before k stage m)

  own_at : (k n : ℕ) (t : Table) → ActsIn k n t → own n ≡ counted_hit t (hit_of t.kind t.key (entries n) (state n))
  own_at k n t acts =
      let node = then_some (λ (x : Node). applied p x.what) (slice_get p.nodes n) t acts.table_is in
      ap (λ b. cond b (table_counts (entries n) (state n) (table_at p n)) []) (goes_at p outcomes n node.0 node.1 ∙ acts.goes node.0 node.1) ∙ ap (table_counts (entries n) (state n)) acts.table_is

  own_none : (k n : ℕ) → set_in n ≡ k → ((t : Table) → ActsIn k n t → ⊥) → own n ≡ []
  own_none k n here none = by_goes (is_going n) refl
    where
      by_table : (o : Option Table) → table_at p n ≡ o → is_going n ≡ true → table_counts (entries n) (state n) (table_at p n) ≡ []
      by_table None e going = ap (table_counts (entries n) (state n)) e
      by_table (Some t) e going = absurd (none t (record { table_is = e; set_here = here; goes = λ node at. sym (goes_at p outcomes n node at) ∙ going }))

      by_goes : (b : Bool) → is_going n ≡ b → own n ≡ []
      by_goes false e = ap (λ b. cond b (table_counts (entries n) (state n) (table_at p n)) []) e
      by_goes true e = ap (λ b. cond b (table_counts (entries n) (state n) (table_at p n)) []) e ∙ by_table (table_at p n) refl e

  -- only a node that acts in a stage counts there
  counts_here : (k n : ℕ) (b : Bool) → (set_in n == k) ≡ b → ((t : Table) → ActsIn k n t → ⊥) → cond (set_in n == k) (own n) [] ≡ []
  counts_here k n true e none = ap (λ b. cond b (own n) []) e ∙ own_none k n (eqb-true (set_in n) k e) none
  counts_here k n false e none = ap (λ b. cond b (own n) []) e

  makes_next : (k n : ℕ) (stage : Stage) (a b : Acts) → HaveMade k stage n a → Makes k n stage a b → HaveMade k stage (suc n) b
  makes_next k n stage a b have (inl none) = (
    (a.running, have.0, inl (ap (λ (m : List Running × List Counted). m.0) none.0, none.1)),
    ap (λ (m : List Running × List Counted). m.1) none.0 ∙ have.1
        ∙ sym (ap (λ ns. counts_in stage ns ++ counted_before k stage n) (counts_here k n (set_in n == k) refl none.1)),
  )
  makes_next k n stage a b have (inr one) =
      let acts = one.1.acts in (
        (a.running, have.0, inr (one.0, ap (λ (m : List Running × List Counted). m.0) one.2, one.1)),
        ap (λ (m : List Running × List Counted). m.1) one.2
            ∙ ap (λ cs. counts_in stage (counted_hit one.1.table (hit_of one.1.table.kind one.1.table.key (entries n) (state n))) ++ cs) have.1
            ∙ sym (ap (λ ns. counts_in stage ns ++ counted_before k stage n)
            (ap (λ b. cond b (own n) []) (eq-eqb (set_in n) k acts.set_here) ∙ own_at k n one.1.table acts)),
      )

  same_goes : (n : ℕ) (node : Node) → slice_get p.nodes n ≡ Some node → runs node.guard outcomes ≡ true → (x : Node) → slice_get p.nodes n ≡ Some x → runs x.guard outcomes ≡ true
  same_goes n node at goes x e = subst (λ (y : Node). runs y.guard outcomes ≡ true) (same_Some node x (sym at ∙ e)) goes

  -- a node whose outcome is set in a later stage doesn't act
  not_yet : (k n : ℕ) → k < set_in n → (t : Table) → ActsIn k n t → ⊥
  not_yet k n lt t acts = (let e = acts.set_here in omega (arith, e, lt))

  -- one whose outcome is set here runs its instruction
  abbrev runs_here : (k n place : ℕ) (stage : Stage) (s : SlotUnit) (node : Node) (t : Table) (r : Running) → UnitAt k n place stage (Slot s) node → table_at p n ≡ Some t → set_in n ≡ k
      → runs node.guard outcomes ≡ true → RunsInstruction t (first_code stage place) stage (hit_of t.kind t.key (entries n) (state n)) r → RunsFor k n r
  runs_here k n place stage s node t r at table set goes runs_it = record {
    place = place;
    stage = stage;
    slot = s;
    table = t;
    part = part_at p places parts starts c v entries state outcomes set_in k n place stage s node at;
    acts = record { table_is = table; set_here = set; goes = same_goes n node at.node_is goes };
    runs_it = runs_it;
  }

  -- a slot that runs
  slot_runs : (k n place : ℕ) (stage : Stage) (s : SlotUnit) (node : Node) (words : Words) (a : Acts) (t : Table) (o : Option Entry) → TheRun → UnitAt k n place stage (Slot s) node
      → a.place ≡ place → TableCarried places parts n k t s → table_at p n ≡ Some t → k ≤ set_in n → runs node.guard outcomes ≡ true
      → chip_runs s.node s.guard a.outcomes ≡ true → looked_up (look_in c v) k a.place words s ≡ look_in c v k place (joined p t.key (state n))
      → hit_of t.kind t.key (entries n) (state n) ≡ o → FindsAs p c v n t (joined p t.key (state n)) o → TableSetIn p parts c v n t (joined p t.key (state n)) (set_in n) o
      → Makes k n stage a (unit_acts (look_in c v) k stage words a (Slot s))
  slot_runs k n place stage s node words a t None run at here carried table le goes acts looks_there hit finds sets =
      let part : IsPart c n k place stage s = part_at p places parts starts c v entries state outcomes set_in k n place stage s node at in
      let none = looks_there ∙ finds k place s (slot_of_part c n k place stage s part) at.carried.number in
      elim (miss_here p places parts starts c v entries state outcomes set_in k n le sets) [
        | inl now ↦
            let r : Running = record { ops = code_at stage (first_code stage a.place + s.actions); held = 0 } in
            inr (
              r,
              runs_here k n place stage s node t r at table now.0 goes
                  (subst (λ h. RunsInstruction t (first_code stage place) stage h r) (sym hit)
                  (ap (λ i. code_at stage (first_code stage i + s.actions)) here ∙ ap (λ m. code_at stage (first_code stage place + m)) carried.actions)),
              slot_adds c v k stage words a s None acts none ∙ miss_adds stage (first_code stage a.place) s a (carried.last ∙ eq-eqb k (last_stage parts n) now.1)
                  ∙ ap (λ h. (r ∷ a.running, counts_in stage (counted_hit t h) ++ a.counted)) (sym hit),
            )
        | inr later ↦
            inl (
              slot_adds c v k stage words a s None acts none
                  ∙ miss_adds_none stage (first_code stage a.place) s a (carried.last ∙ eqb_false k (last_stage parts n) (λ e. let lt = later.1 in omega (arith, e, lt))),
              not_yet k n later.0,
            )
      ]
  slot_runs k n place stage s node words a t (Some e) run at here carried table le goes acts looks_there hit finds sets =
      elim (hit_here p places parts starts c v entries state outcomes set_in k n place stage s node t e (joined p t.key (state n)) run at le sets) [
        | inl now ↦
            let x = now.1 in
            let entry = x.is_entry in
            let r : Running = record { ops = code_at stage x.found.code; held = x.found.held } in
            inr (
              r,
              runs_here k n place stage s node t r at table now.0 goes
                  (subst (λ h. RunsInstruction t (first_code stage place) stage h r) (sym hit) (ap (code_at stage) entry.code, entry.held)),
              slot_adds c v k stage words a s (Some x.found) acts (looks_there ∙ x.seen) ∙ hit_adds stage (first_code stage a.place) s a t e x.found carried.counted entry.number
                  ∙ ap (λ h. (r ∷ a.running, counts_in stage (counted_hit t h) ++ a.counted)) (sym hit),
            )
        | inr later ↦
            inl (
              slot_adds c v k stage words a s None acts (looks_there ∙ later.2)
                  ∙ miss_adds_none stage (first_code stage a.place) s a (carried.last ∙ eqb_false k (last_stage parts n) (λ y. let lt = later.1 in omega (arith, y, lt))),
              not_yet k n later.0,
            )
      ]

  -- a unit that runs
  acting_makes : (k n place : ℕ) (stage : Stage) (u : Unit) (node : Node) (words : Words) (a : Acts) (w : What) → TheRun → UnitAt k n place stage u node → node.what ≡ w
      → a.place ≡ place → k ≤ set_in n → runs node.guard outcomes ≡ true → chip_runs (node_of u) (guard_in u) a.outcomes ≡ true → Reads words n w
      → Makes k n stage a (unit_acts (look_in c v) k stage words a u)
  acting_makes k n place stage (Gate g) node words a w run at is here le goes acts reads =
      inl (gate_adds (chip_runs g.node g.guard a.outcomes) a (slice_set a.outcomes g.node (cond (gate_passes words g.tests) 2 1)), (λ t h. no_table w is t h.table_is))
    where
      does : DoesAs p places parts k n node.what (Gate g)
      does = and_at (slice_get p.nodes n) (λ (x : Node). DoesAs p places parts k n x.what (Gate g)) node at.node_is at.carried.does

      no_table : (w' : What) → node.what ≡ w' → (t : Table) → table_at p n ≡ Some t → ⊥
      no_table (what.Apply i) e t table = subst (λ x. DoesAs p places parts k n x (Gate g)) e does
      no_table (what.Gate field test) e t table =
          let none : table_at p n ≡ None = ap (option_and_then (λ (x : Node). applied p x.what)) at.node_is ∙ ap (applied p) e in
          none-some t (sym none ∙ table)
  acting_makes k n place stage (Slot s) node words a (what.Gate field test) run at is here le goes acts reads =
      let does = and_at (slice_get p.nodes n) (λ (x : Node). DoesAs p places parts k n x.what (Slot s)) node at.node_is at.carried.does in
      absurd (subst (λ x. DoesAs p places parts k n x (Slot s)) is does)
  acting_makes k n place stage (Slot s) node words a (what.Apply i) run at is here le goes acts reads =
      let x = applied_here p places parts starts c v entries state outcomes set_in k n place stage s node words a i run at is here goes reads in
      let t = x.table in
      slot_runs k n place stage s node words a t (hit_of t.kind t.key (entries n) (state n)) run at here x.carried x.table_is le goes acts x.looks_there refl (run.finds n t x.table_is) x.sets

  -- a unit of stage k
  unit_makes : (k n place : ℕ) (stage : Stage) (u : Unit) (node : Node) (words : Words) (a : Acts) → TheRun → UnitAt k n place stage u node
      → a.place ≡ place → SetBefore k n a.outcomes → (runs node.guard outcomes ≡ true → k ≤ set_in n → Reads words n node.what)
      → Makes k n stage a (unit_acts (look_in c v) k stage words a u)
  unit_makes k n place stage u node words a run at here set reads = elim (unit_turn p places parts starts c v entries state outcomes set_in k n place stage u node a.outcomes run at set) [
    | inl off ↦ inl (unit_stops c v k stage words a u off.stopped, λ t h. no_act off.why t h)
    | inr on ↦ acting_makes k n place stage u node words a node.what run at refl here on.later on.goes on.acts (reads on.goes on.later)
  ]
    where
      no_act : (runs node.guard outcomes ≡ false) ⊎ (set_in n < k) → (t : Table) → ActsIn k n t → ⊥
      no_act (inl off) t h = both_ways (runs node.guard outcomes) off (h.goes node at.node_is)
      no_act (inr lt) t h = let e = h.set_here in omega (arith, e, lt)

  -- ---- all units of a stage

  made_next : (k m : ℕ) (stage : Stage) (a b : Acts) → HaveMade k stage m a → Makes k m stage a b → HaveMade k stage (m + 1) b
  made_next k m stage a b have makes = let e : suc m ≡ m + 1 = omega arith in let P : ℕ → Type 0 = λ j. HaveMade k stage j b in subst P e (makes_next k m stage a b have makes)

  -- what is made before node m, where the outcomes are set
  abbrev MadeBefore : ℕ → Stage → ℕ → Acts → Type 0
  MadeBefore k stage m a = SetBefore k m a.outcomes × HaveMade k stage m a

  none_made : (k m : ℕ) (stage : Stage) (node : Node) (a : Acts) → TheRun → slice_get p.nodes m ≡ Some node → nat_lt 0 (quanta_in parts m k) ≡ false → Makes k m stage a a
  none_made k m stage node a run is_node off =
      inl (
        refl,
        λ t h.
            let within = slice_get_within p.nodes m node is_node in
            let here = h.set_here in
            let stands = stands_where_set p places parts starts c v entries state outcomes set_in m (set_in m) node.what run.units within (run.sets m node is_node (h.goes node is_node)) in
            both_ways (nat_lt 0 (quanta_in parts m k)) off (lt-ltb 0 (quanta_in parts m k) (subst (λ j. 0 < quanta_in parts m j) here stands)),
      )

  stage_makes : (k : ℕ) (stage : Stage) (words : Words) (now : List ℕ) → TheRun → slice_get c.stages k ≡ Some stage
      → StageReads p places parts starts c v entries state outcomes set_in k words → SetBefore k 0 now
      → HaveMade k stage (length p.nodes) (acts_of (look_in c v) k stage words now)
  stage_makes k stage words now run stage_is reads set =
      (kept_through p places parts starts c v entries state outcomes set_in k stage words (MadeBefore k stage) stage_is
      (record {
        absent = λ m node a is_node off before. (
          not_there p places parts starts c v entries state outcomes set_in k m node a.outcomes run is_node (slice_get_within p.nodes m node is_node) off before.0,
          made_next k m stage a a before.1 (none_made k m stage node a run is_node off),
        );
        acts = λ m u node a at stands before. (
          unit_law p places parts starts c v entries state outcomes set_in k m a.place stage u node words a run at refl before.0 (reads m node at.node_is stands),
          made_next k m stage a (unit_acts (look_in c v) k stage words a u) before.1
              (unit_makes k m a.place stage u node words a run at refl before.0 (reads m node at.node_is stands)),
        );
      }) now run.units (set, (refl, refl))).1

  -- In a stage the instructions of its acting tables run, each once.
  pub running_law : (k : ℕ) (stage : Stage) (words : Words) (now : List ℕ) → TheRun → slice_get c.stages k ≡ Some stage
      → StageReads p places parts starts c v entries state outcomes set_in k words → SetBefore k 0 now
      → RanBefore k (length p.nodes) (acts_of (look_in c v) k stage words now).running
  running_law k stage words now run stage_is reads set = (stage_makes k stage words now run stage_is reads set).0

  -- And their hits in counted tables are counted, each once.
  pub stage_counts : (k : ℕ) (stage : Stage) (words : Words) (now : List ℕ) → TheRun → slice_get c.stages k ≡ Some stage
      → StageReads p places parts starts c v entries state outcomes set_in k words → SetBefore k 0 now
      → (acts_of (look_in c v) k stage words now).counted ≡ counted_before k stage (length p.nodes)
  stage_counts k stage words now run stage_is reads set = (stage_makes k stage words now run stage_is reads set).1
