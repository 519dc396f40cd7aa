-- Outcomes, stage by stage: after a stage, the nodes whose outcome is set up to there have that of the program's run, and no other node has one.
use Rattle.std.proofs.Common.{◌≡◌, ℕ, zero, suc, ◌+◌, ◌-◌, ◌/◌, ◌%◌, ◌^◌, ◌<◌, ◌≤◌, Bool, true, false, ◌&&◌, ◌||◌, ◌==◌, cond, List, [], ◌∷◌, Option, Some, None, length, drop, refl, sym, ap, ◌∙◌, subst, ◌⊎◌, inl, inr, arith}
use Rattle.std.specs.Prelude.{IfSome, filter, fold, nat_lt, option_and_then, option_map, slice_get, slice_index, slice_set, unwrap_or, ⊤}
use Rattle.std.specs.List.{AllZip, range_with_len}
use Rattle.std.proofs.Math.ListN.{length-set}
use Rattle.std.proofs.lemmas.Bool.{both_ways, cases_eq, cases_lt, eq-eqb, eqb-true, false_from_ne_true, lt-ltb, ltb-true}
use Rattle.std.proofs.lemmas.List.{get_or-set_other, get_or-set_same}
use Rattle.std.proofs.lemmas.Option.{same_Some, slice_get_within}
use Rattle.std.proofs.lemmas.List.Elements.{All-weaker, All-contains}
use Rattle.rmt_bits.proofs.ListLaws.{slice_get-item}
use Rattle.rmt_bits.specs.declared.lane.Lane.{Lane}
use Rattle.rmt_refine.specs.Types.{Program, Table, Node, Guard, What, Config, Stage, Unit, GateUnit, SlotUnit, Memory}
use Rattle.rmt_ast.specs.declared.program.What.TheVariants as what
use Rattle.rmt_ast.specs.declared.entry.Entry.{Entry}
use Rattle.rmt_ast.specs.Control.{runs}
use Rattle.rmt_ast.specs.Lookup.{hit_of}
use Rattle.rmt_ast.specs.State.{joined, passes}
use Rattle.rmt_config.specs.Instructions.{first_code}
use Rattle.rmt_config.specs.declared.config.Unit.TheVariants.{Gate, Slot}
use Rattle.rmt_config.specs.declared.config.Memory.TheVariants.{Without, Exact, Ternary}
use Rattle.rmt_config.specs.Cells.{Found}
use Rattle.rmt_config.specs.Life.{Acts, Life, Words, acts_of, gate_passes, guarded, has_memory, key_of, looked_up, slot_acts, through, unit_acts}
use Rattle.rmt_config.specs.Life.{runs as chip_runs}
use Rattle.rmt_pack.specs.declared.placement.Part.{Part}
use Rattle.rmt_pack.specs.Placements.{quanta_in}
use Rattle.rmt_refine.specs.View.{View, as_slot, look_in}
use Rattle.rmt_phv.specs.Places.{high_first}
use Rattle.rmt_refine.specs.Units.{DoesAs, TableCarried, UnitCarried, UnitsCarried, applied, guard_in, guard_of, last_stage, nodes_in, table_at, tests_of}
use Rattle.rmt_config.specs.TableForm.{node_of}
use Rattle.rmt_refine.specs.LookUps.{FindsAs, IsEntryFound}
use Rattle.rmt_refine.specs.Outcomes.{IsSetIn, TableSetIn, hit_outcome, node_outcome}
use Rattle.rmt_refine.proofs.NodeLaws.{one_place, part_there, stands_in_last, within_last}
use Rattle.rmt_pack.proofs.PartLaws.{IsPart, and_at}
use Rattle.rmt_refine.proofs.PartLaws.{look_of_part, quanta_of_node, slot_of_part, some_and, unit_of_part}
use Rattle.std.proofs.lemmas.Bool.Decides.{nat_tests}
use Rattle.std.proofs.Math.Nat.{eq-or-lt_of_le}

-- ---- what one unit does to the outcomes

pub gate_off : (c : Config) (v : View) (k : ℕ) (stage : Stage) (words : Words) (a : Acts) (g : GateUnit) → chip_runs g.node g.guard a.outcomes ≡ false
    → (unit_acts (look_in c v) k stage words a (Gate g)).outcomes ≡ a.outcomes
gate_off c v k stage words a g e = ap (λ (b : Bool). (cond b (record a { outcomes = slice_set a.outcomes g.node (cond (gate_passes words g.tests) 2 1) }) a).outcomes) e

pub gate_on : (c : Config) (v : View) (k : ℕ) (stage : Stage) (words : Words) (a : Acts) (g : GateUnit) → chip_runs g.node g.guard a.outcomes ≡ true
    → (unit_acts (look_in c v) k stage words a (Gate g)).outcomes ≡ slice_set a.outcomes g.node (cond (gate_passes words g.tests) 2 1)
gate_on c v k stage words a g e = ap (λ (b : Bool). (cond b (record a { outcomes = slice_set a.outcomes g.node (cond (gate_passes words g.tests) 2 1) }) a).outcomes) e

pub slot_off : (c : Config) (v : View) (k : ℕ) (stage : Stage) (words : Words) (a : Acts) (s : SlotUnit) → chip_runs s.node s.guard a.outcomes ≡ false
    → (unit_acts (look_in c v) k stage words a (Slot s)).outcomes ≡ a.outcomes
slot_off c v k stage words a s e = ap (λ (b : Bool). (cond b (slot_acts stage (first_code stage a.place) s (looked_up (look_in c v) k a.place words s) a) a).outcomes) e

slot_on : (c : Config) (v : View) (k : ℕ) (stage : Stage) (words : Words) (a : Acts) (s : SlotUnit) (o : Option Found) → chip_runs s.node s.guard a.outcomes ≡ true
    → looked_up (look_in c v) k a.place words s ≡ o → (unit_acts (look_in c v) k stage words a (Slot s)).outcomes ≡ (slot_acts stage (first_code stage a.place) s o a).outcomes
slot_on c v k stage words a s o e found =
    ap (λ (b : Bool). (cond b (slot_acts stage (first_code stage a.place) s (looked_up (look_in c v) k a.place words s) a) a).outcomes) e ∙ ap (λ (f : Option Found). (slot_acts stage (first_code stage a.place) s f a).outcomes) found

miss_last : (stage : Stage) (first : ℕ) (s : SlotUnit) (a : Acts) → s.last ≡ true → (slot_acts stage first s None a).outcomes ≡ slice_set a.outcomes s.node 1
miss_last stage first s a e = rw e refl

miss_more : (stage : Stage) (first : ℕ) (s : SlotUnit) (a : Acts) → s.last ≡ false → (slot_acts stage first s None a).outcomes ≡ a.outcomes
miss_more stage first s a e = rw e refl

-- a slot looks its key up, where it has memory; one without has nothing to find
pub looks : (c : Config) (v : View) (n k place : ℕ) (stage : Stage) (words : Words) (s : SlotUnit) (key : ℕ) → IsPart c n k place stage s → key_of words s.keys ≡ key
    → (m : Memory) → s.memory ≡ m → looked_up (look_in c v) k place words s ≡ look_in c v k place key
looks c v n k place stage words s key part reads Without e =
    (let none : looked_up (look_in c v) k place words s ≡ None = ap (λ (m : Memory). cond (has_memory m) (look_in c v k place (key_of words s.keys)) None) e in none)
    ∙ sym (look_of_part c v n k place key stage s part ∙ rw e refl)
looks c v n k place stage words s key part reads (Exact w per d first ks rs cs) e =
    ap (λ (m : Memory). cond (has_memory m) (look_in c v k place (key_of words s.keys)) None) e ∙ ap (look_in c v k place) reads
looks c v n k place stage words s key part reads (Ternary d ks rs cs) e =
    ap (λ (m : Memory). cond (has_memory m) (look_in c v k place (key_of words s.keys)) None) e ∙ ap (look_in c v k place) reads

-- ---- guards

same_guard : (g : Option Guard) (now outcomes : List ℕ) → ((x : Guard) → g ≡ Some x → slice_index now x.parent ≡ slice_index outcomes x.parent) → guarded (guard_of g) now ≡ runs g outcomes
same_guard None now outcomes same = refl
same_guard (Some x) now outcomes same = ap (λ o. x.mask / 2 ^ o % 2 == 1) (same x refl)

pub eqb_false : (a b : ℕ) → (a ≡ b → ⊥) → (a == b) ≡ false
eqb_false a b ne = false_from_ne_true (a == b) (λ e. ne (eqb-true a b e))

-- ---- units one after another

pub drop_head : {X : Type 0} (xs : List X) (i : ℕ) (x : X) (ys : List X) → drop i xs ≡ x ∷ ys → (slice_get xs i ≡ Some x) × (drop (i + 1) xs ≡ ys)
drop_head [] zero x ys e = absurd (let none : ⊥ = cc in none)
drop_head [] (suc i) x ys e = absurd (let none : ⊥ = cc in none)
drop_head (z ∷ zs) zero x ys e = (cc, cc)
drop_head (z ∷ zs) (suc i) x ys e =
    let r = drop_head zs i x ys e in
    let next : suc i + 1 ≡ suc (i + 1) = omega arith in
    (r.0, ap (λ m. drop m (z ∷ zs)) next ∙ r.1)

pub place_after : (c : Config) (v : View) (k : ℕ) (stage : Stage) (words : Words) (a : Acts) (u : Unit) → (unit_acts (look_in c v) k stage words a u).place ≡ a.place + 1
place_after c v k stage words a (Gate g) = refl
place_after c v k stage words a (Slot s) = refl

-- ---- a stage

module _ (p : Program) (places : List (List Lane)) (parts : List Part) (starts : List ℕ) (c : Config) (v : View) (entries : ℕ → List Entry) (state : ℕ → List ℕ) (outcomes : List ℕ) (set_in : ℕ → ℕ) where
  -- the outcome of node n is set before the units of stage k from node m on act
  abbrev pub is_set : ℕ → ℕ → ℕ → Bool
  is_set k m n = nat_lt (set_in n) k || ((set_in n == k) && nat_lt n m)

  -- the outcomes before these units act
  pub record AreSet (k m : ℕ) (now : List ℕ) : Type 0 where
    pub room : length p.nodes ≤ length now
    pub each : (n : ℕ) → n < length p.nodes → slice_index now n ≡ cond (is_set k m n) (slice_index outcomes n) 0

  -- what a node reads from the words at the start of a stage is what it reads from its state
  abbrev pub ReadsAs : Words → ℕ → What → Type 0
  ReadsAs words n (what.Apply i) = IfSome (slice_get p.tables i) (λ (t : Table). key_of words (high_first places t.key) ≡ joined p t.key (state n))
  ReadsAs words n (what.Gate field test) = gate_passes words (tests_of places field test) ≡ passes test (slice_index (state n) field)

  -- What the law rests on: the run's outcomes and states by node, and the stage in which each outcome is set.
  pub record IsRun : Type 0 where
    pub units : UnitsCarried p places parts starts c
    pub given : (n : ℕ) (node : Node) → slice_get p.nodes n ≡ Some node
        → slice_index outcomes n ≡ cond (runs node.guard outcomes) (node_outcome p (entries n) (state n) node.what) 0
    pub sets : (n : ℕ) (node : Node) → slice_get p.nodes n ≡ Some node → runs node.guard outcomes ≡ true → IsSetIn p parts c v (entries n) (state n) n node.what (set_in n)
    pub finds : (n : ℕ) (t : Table) → table_at p n ≡ Some t → FindsAs p c v n t (joined p t.key (state n)) (hit_of t.kind t.key (entries n) (state n))
    pub parents : (n : ℕ) (node : Node) (g : Guard) → slice_get p.nodes n ≡ Some node → node.guard ≡ Some g
        → (g.parent < n) × ((k : ℕ) → 0 < quanta_in parts n k → (slice_index outcomes g.parent ≡ 0) ⊎ (set_in g.parent ≤ k))

  -- ---- which outcomes are set

  other_set : (k n j : ℕ) → (j ≡ n → ⊥) → is_set k n j ≡ is_set k (n + 1) j
  other_set k n j ne = grind (arith, nat_tests)

  pub own_before : (k n : ℕ) → set_in n < k → (m : ℕ) → is_set k m n ≡ true
  own_before k n lt m = grind (arith, nat_tests)

  pub own_unset : (k n : ℕ) → k ≤ set_in n → is_set k n n ≡ false
  own_unset k n le = grind (arith, nat_tests)

  own_now : (k n : ℕ) → set_in n ≡ k → is_set k (n + 1) n ≡ true
  own_now k n e = grind (arith, nat_tests)

  own_later : (k n m : ℕ) → k < set_in n → is_set k m n ≡ false
  own_later k n m lt = grind (arith, nat_tests)

  stays : (k n : ℕ) (now : List ℕ) → AreSet k n now → slice_index now n ≡ cond (is_set k (n + 1) n) (slice_index outcomes n) 0 → AreSet k (n + 1) now
  stays k n now set own = record {
    room = set.room;
    each = λ j lt.
        elim (cases_eq j n) [
          | inl e ↦ subst (λ i. slice_index now i ≡ cond (is_set k (n + 1) i) (slice_index outcomes i) 0) (sym e) own
          | inr ne ↦ set.each j lt ∙ ap (λ b. cond b (slice_index outcomes j) 0) (other_set k n j ne)
        ];
  }

  sets_own : (k n : ℕ) (now : List ℕ) → n < length p.nodes → AreSet k n now → set_in n ≡ k → AreSet k (n + 1) (slice_set now n (slice_index outcomes n))
  sets_own k n now within set e =
      let x = slice_index outcomes n in
      record {
        room = subst (λ m. length p.nodes ≤ m) (sym (length-set now n x)) set.room;
        each = λ j lt.
            elim (cases_eq j n) [
              | inl same ↦
                  subst (λ i. slice_index (slice_set now n x) i ≡ cond (is_set k (n + 1) i) (slice_index outcomes i) 0) (sym same)
                  (get_or-set_same now n x 0 (omega (arith, within, set.room)) ∙ ap (λ b. cond b x 0) (sym (own_now k n e)))
              | inr ne ↦ get_or-set_other now n j x 0 ne ∙ set.each j lt ∙ ap (λ b. cond b (slice_index outcomes j) 0) (other_set k n j ne)
            ];
      }

  -- ---- one unit

  parent_set : (k n q : ℕ) → q < n → set_in q ≤ k → is_set k n q ≡ true
  parent_set k n q less le = grind (arith, nat_tests)

  either_same : (b : Bool) (x : ℕ) → cond b x x ≡ x
  either_same true x = refl
  either_same false x = refl

  -- what is known of the unit of node n, which stands at a place of stage k
  pub record IsAt (k n place : ℕ) (stage : Stage) (u : Unit) (node : Node) : Type 0 where
    pub within : n < length p.nodes
    pub stage_is : slice_get c.stages k ≡ Some stage
    pub unit_is : slice_get stage.units place ≡ Some u
    pub number : slice_get (nodes_in p parts k) place ≡ Some n
    pub carried : UnitCarried p places parts k n u
    pub node_is : slice_get p.nodes n ≡ Some node

  pub guard_right : (k n place : ℕ) (stage : Stage) (u : Unit) (node : Node) (now : List ℕ) → IsRun → IsAt k n place stage u node → AreSet k n now
      → guarded (guard_in u) now ≡ runs node.guard outcomes
  guard_right k n place stage u node now run at set =
      let same = and_at (slice_get p.nodes n) (λ (x : Node). guard_in u ≡ guard_of x.guard) node at.node_is at.carried.guard in
      ap (λ g. guarded g now) same
      ∙ same_guard node.guard now outcomes (λ g is.
      let parent = run.parents n node g at.node_is is in
      let less = parent.0 in
      let value = set.each g.parent (omega (arith, less, at.within)) in
      elim (parent.1 k (quanta_of_node p parts k place n at.number)) [
        | inl none ↦ value ∙ ap (λ o. cond (is_set k n g.parent) o 0) none ∙ either_same (is_set k n g.parent) 0 ∙ sym none
        | inr le ↦ value ∙ ap (λ b. cond b (slice_index outcomes g.parent) 0) (parent_set k n g.parent less le)
      ])

  unit_off : (k : ℕ) (stage : Stage) (words : Words) (a : Acts) (u : Unit) → chip_runs (node_of u) (guard_in u) a.outcomes ≡ false
      → (unit_acts (look_in c v) k stage words a u).outcomes ≡ a.outcomes
  unit_off k stage words a (Gate g) e = gate_off c v k stage words a g e
  unit_off k stage words a (Slot s) e = slot_off c v k stage words a s e

  -- the outcome of a node that runs
  pub run_outcome : (n : ℕ) (node : Node) → IsRun → slice_get p.nodes n ≡ Some node → runs node.guard outcomes ≡ true → slice_index outcomes n ≡ node_outcome p (entries n) (state n) node.what
  run_outcome n node run is_node goes = run.given n node is_node ∙ ap (λ b. cond b (node_outcome p (entries n) (state n) node.what) 0) goes

  gate_law : (k n place : ℕ) (stage : Stage) (g : GateUnit) (node : Node) (words : Words) (a : Acts) (w : What) → IsRun → IsAt k n place stage (Gate g) node → node.what ≡ w
      → AreSet k n a.outcomes → k ≤ set_in n → runs node.guard outcomes ≡ true → chip_runs g.node g.guard a.outcomes ≡ true → ReadsAs words n w
      → AreSet k (n + 1) (unit_acts (look_in c v) k stage words a (Gate g)).outcomes
  gate_law k n place stage g node words a (what.Apply i) run at is set le goes acts reads =
      let does = and_at (slice_get p.nodes n) (λ (x : Node). DoesAs p places parts k n x.what (Gate g)) node at.node_is at.carried.does in
      absurd (subst (λ x. DoesAs p places parts k n x (Gate g)) is does)
  gate_law k n place stage g node words a (what.Gate field test) run at is set le goes acts reads =
      let does = subst (λ x. DoesAs p places parts k n x (Gate g)) is
      (and_at (slice_get p.nodes n) (λ (x : Node). DoesAs p places parts k n x.what (Gate g)) node at.node_is at.carried.does) in
      let sets = subst (λ x. IsSetIn p parts c v (entries n) (state n) n x (set_in n)) is (run.sets n node at.node_is goes) in
      let same : set_in n ≡ k = elim (eq-or-lt_of_le le) [
        | inl e ↦ sym e
        | inr lt ↦ absurd (let none = sets.1 k lt in omega (arith, none, quanta_of_node p parts k place n at.number))
      ] in
      let value : cond (gate_passes words g.tests) 2 1 ≡ slice_index outcomes n =
      ap (λ ts. cond (gate_passes words ts) 2 1) does ∙ ap (λ b. cond b 2 1) reads
      ∙ sym (run_outcome n node run at.node_is goes ∙ ap (node_outcome p (entries n) (state n)) is) in
      let done : (unit_acts (look_in c v) k stage words a (Gate g)).outcomes ≡ slice_set a.outcomes n (slice_index outcomes n) =
      gate_on c v k stage words a g acts ∙ ap (λ m. slice_set a.outcomes m (cond (gate_passes words g.tests) 2 1)) at.carried.number
      ∙ ap (slice_set a.outcomes n) value in
      subst (AreSet k (n + 1)) (sym done) (sets_own k n a.outcomes at.within set same)

  -- a slot that finds nothing
  slot_miss : (k n : ℕ) (stage : Stage) (s : SlotUnit) (words : Words) (a : Acts) → n < length p.nodes → s.node ≡ n → s.last ≡ (k == last_stage parts n)
      → AreSet k n a.outcomes → k ≤ set_in n → chip_runs s.node s.guard a.outcomes ≡ true → looked_up (look_in c v) k a.place words s ≡ None
      → ((set_in n ≡ k) × (k ≡ last_stage parts n) × (slice_index outcomes n ≡ 1)) ⊎ ((k < set_in n) × (k < last_stage parts n))
      → AreSet k (n + 1) (unit_acts (look_in c v) k stage words a (Slot s)).outcomes
  slot_miss k n stage s words a within number last set le acts none (inl now) =
      let done : (unit_acts (look_in c v) k stage words a (Slot s)).outcomes ≡ slice_set a.outcomes n (slice_index outcomes n) =
      slot_on c v k stage words a s None acts none ∙ miss_last stage (first_code stage a.place) s a (last ∙ eq-eqb k (last_stage parts n) now.1)
      ∙ ap (λ m. slice_set a.outcomes m 1) number ∙ ap (slice_set a.outcomes n) (sym now.2) in
      subst (AreSet k (n + 1)) (sym done) (sets_own k n a.outcomes within set now.0)
  slot_miss k n stage s words a within number last set le acts none (inr later) =
      let done : (unit_acts (look_in c v) k stage words a (Slot s)).outcomes ≡ a.outcomes =
      slot_on c v k stage words a s None acts none ∙ miss_more stage (first_code stage a.place) s a (last ∙ eqb_false k (last_stage parts n) (λ e. omega (arith, e, later.1))) in
      subst (AreSet k (n + 1)) (sym done)
      (stays k n a.outcomes set
      (set.each n within ∙ ap (λ b. cond b (slice_index outcomes n) 0) (own_unset k n le ∙ sym (own_later k n (n + 1) later.0))))

  -- a miss is told here, or by a later part
  pub miss_here : (k n : ℕ) → k ≤ set_in n → set_in n ≡ last_stage parts n → ((set_in n ≡ k) × (k ≡ last_stage parts n)) ⊎ ((k < set_in n) × (k < last_stage parts n))
  miss_here k n le sets = elim (eq-or-lt_of_le le) [
    | inl e ↦ inl (sym e, e ∙ sets)
    | inr lt ↦ inr (lt, subst (λ m. k < m) sets lt)
  ]

  -- the slot that stands there is a part of its node
  pub part_at : (k n place : ℕ) (stage : Stage) (s : SlotUnit) (node : Node) → IsAt k n place stage (Slot s) node → IsPart c n k place stage s
  part_at k n place stage s node at = record { stage_is = at.stage_is; slot_is = ap (option_and_then as_slot) at.unit_is; node_is = at.carried.number }

  -- the entry that a key hits is found at this place
  pub record FoundHere (k place : ℕ) (stage : Stage) (t : Table) (e : Entry) (key : ℕ) : Type 0 where
    pub found : Found
    pub seen : look_in c v k place key ≡ Some found
    pub is_entry : IsEntryFound p t (first_code stage place) e found

  -- a hit is told here, or by a later part, and nothing is found here then
  pub hit_here : (k n place : ℕ) (stage : Stage) (s : SlotUnit) (node : Node) (t : Table) (e : Entry) (key : ℕ) → IsRun → IsAt k n place stage (Slot s) node → k ≤ set_in n
      → TableSetIn p parts c v n t key (set_in n) (Some e)
      → ((set_in n ≡ k) × FoundHere k place stage t e key) ⊎ ((k < set_in n) × (k < last_stage parts n) × (look_in c v k place key ≡ None))
  hit_here k n place stage s node t e key run at le sets =
      let part : IsPart c n k place stage s = part_at k n place stage s node at in
      let f = sets.0 in
      let set_there : f.k ≡ set_in n = sets.1 in
      let f_part : IsPart c n f.k f.place f.stage f.slot = record { stage_is = f.stage_is; slot_is = f.slot_is; node_is = f.node_is } in
      let f_at = unit_of_part p places parts starts c n f.k f.place f.stage f.slot run.units f_part in
      let f_last = within_last parts n f.k (quanta_of_node p parts f.k f.place n f_at.0) in
      elim (eq-or-lt_of_le le) [
        | inl same ↦
            let k_is : f.k ≡ k = set_there ∙ sym same in
            let place_is : f.place ≡ place = one_place p parts k n f.place place (subst (λ j. slice_get (nodes_in p parts j) f.place ≡ Some n) k_is f_at.0) at.number in
            let stage_is : f.stage ≡ stage = same_Some f.stage stage (sym f.stage_is ∙ ap (slice_get c.stages) k_is ∙ at.stage_is) in
            inl (
              sym same,
              record {
                found = f.found;
                seen = ap (λ j. look_in c v j place key) (sym k_is) ∙ ap (λ i. look_in c v f.k i key) (sym place_is) ∙ f.looks;
                is_entry = subst (λ first. IsEntryFound p t first e f.found) (ap (λ (x : Stage). first_code x f.place) stage_is ∙ ap (first_code stage) place_is) f.is_entry;
              },
            )
        | inr lt ↦
            inr (lt, omega (arith, lt, set_there, f_last), f.none_before k place s (omega (arith, lt, set_there)) (slot_of_part c n k place stage s part) at.carried.number)
      ]

  by_found : (k n place : ℕ) (stage : Stage) (s : SlotUnit) (node : Node) (words : Words) (a : Acts) (t : Table) (o : Option Entry) → IsRun → IsAt k n place stage (Slot s) node
      → a.place ≡ place → s.last ≡ (k == last_stage parts n) → AreSet k n a.outcomes → k ≤ set_in n → chip_runs s.node s.guard a.outcomes ≡ true
      → looked_up (look_in c v) k a.place words s ≡ look_in c v k place (joined p t.key (state n)) → FindsAs p c v n t (joined p t.key (state n)) o
      → TableSetIn p parts c v n t (joined p t.key (state n)) (set_in n) o → slice_index outcomes n ≡ hit_outcome o
      → AreSet k (n + 1) (unit_acts (look_in c v) k stage words a (Slot s)).outcomes
  by_found k n place stage s node words a t None run at here last set le acts looks_there finds sets value =
      let none = looks_there ∙ finds k place s (slot_of_part c n k place stage s (part_at k n place stage s node at)) at.carried.number in
      slot_miss k n stage s words a at.within at.carried.number last set le acts none
      (elim (miss_here k n le sets) [ inl now ↦ inl (now.0, now.1, value) | inr later ↦ inr later ])
  by_found k n place stage s node words a t (Some e) run at here last set le acts looks_there finds sets value =
      elim (hit_here k n place stage s node t e (joined p t.key (state n)) run at le sets) [
        | inl now ↦
            let x = now.1 in
            let first : first_code stage a.place ≡ first_code stage place = ap (first_code stage) here in
            let action : 2 + (x.found.code - first_code stage a.place) ≡ 2 + e.action = omega (arith, x.is_entry.code, first) in
            let done : (unit_acts (look_in c v) k stage words a (Slot s)).outcomes ≡ slice_set a.outcomes n (slice_index outcomes n) =
            slot_on c v k stage words a s (Some x.found) acts (looks_there ∙ x.seen)
            ∙ ap (λ m. slice_set a.outcomes m (2 + (x.found.code - first_code stage a.place))) at.carried.number
            ∙ ap (slice_set a.outcomes n) (action ∙ sym value) in
            subst (AreSet k (n + 1)) (sym done) (sets_own k n a.outcomes at.within set now.0)
        | inr later ↦ slot_miss k n stage s words a at.within at.carried.number last set le acts (looks_there ∙ later.2) (inr (later.0, later.1))
      ]

  -- what is known of a slot whose node runs: its table, what it looks up, and where the outcome is set
  pub record AppliedHere (k n place : ℕ) (s : SlotUnit) (words : Words) (a : Acts) (i : ℕ) : Type 0 where
    pub table : Table
    pub listed : slice_get p.tables i ≡ Some table
    pub table_is : table_at p n ≡ Some table
    pub carried : TableCarried places parts n k table s
    pub looks_there : looked_up (look_in c v) k a.place words s ≡ look_in c v k place (joined p table.key (state n))
    pub sets : TableSetIn p parts c v n table (joined p table.key (state n)) (set_in n) (hit_of table.kind table.key (entries n) (state n))

  pub applied_here : (k n place : ℕ) (stage : Stage) (s : SlotUnit) (node : Node) (words : Words) (a : Acts) (i : ℕ) → IsRun → IsAt k n place stage (Slot s) node → node.what ≡ what.Apply i
      → a.place ≡ place → runs node.guard outcomes ≡ true → ReadsAs words n (what.Apply i) → AppliedHere k n place s words a i
  applied_here k n place stage s node words a i run at is here goes reads =
      let does = subst (λ x. DoesAs p places parts k n x (Slot s)) is
      (and_at (slice_get p.nodes n) (λ (x : Node). DoesAs p places parts k n x.what (Slot s)) node at.node_is at.carried.does) in
      let table = some_and (slice_get p.tables i) (λ (t : Table). TableCarried places parts n k t s) does in
      let t = table.0 in
      let carried : TableCarried places parts n k t s = table.2 in
      let key = joined p t.key (state n) in
      let sets = subst (λ x. IsSetIn p parts c v (entries n) (state n) n x (set_in n)) is (run.sets n node at.node_is goes) in
      let reads_key : key_of words (high_first places t.key) ≡ key = subst (λ o. IfSome o (λ (x : Table). key_of words (high_first places x.key) ≡ joined p x.key (state n))) table.1 reads in
      record {
        table = t;
        listed = table.1;
        table_is = ap (option_and_then (λ (x : Node). applied p x.what)) at.node_is ∙ ap (applied p) is ∙ table.1;
        carried = carried;
        looks_there =
            ap (λ m. looked_up (look_in c v) k m words s) here
            ∙ looks c v n k place stage words s key (part_at k n place stage s node at) (ap (key_of words) carried.keys ∙ reads_key) s.memory refl;
        sets =
            and_at (slice_get p.tables i) (λ (x : Table). TableSetIn p parts c v n x (joined p x.key (state n)) (set_in n) (hit_of x.kind x.key (entries n) (state n))) t table.1 sets;
      }

  slot_law : (k n place : ℕ) (stage : Stage) (s : SlotUnit) (node : Node) (words : Words) (a : Acts) (w : What) → IsRun → IsAt k n place stage (Slot s) node → node.what ≡ w
      → a.place ≡ place → AreSet k n a.outcomes → k ≤ set_in n → runs node.guard outcomes ≡ true
      → chip_runs s.node s.guard a.outcomes ≡ true → ReadsAs words n w → AreSet k (n + 1) (unit_acts (look_in c v) k stage words a (Slot s)).outcomes
  slot_law k n place stage s node words a (what.Gate field test) run at is here set le goes acts reads =
      let does = and_at (slice_get p.nodes n) (λ (x : Node). DoesAs p places parts k n x.what (Slot s)) node at.node_is at.carried.does in
      absurd (subst (λ x. DoesAs p places parts k n x (Slot s)) is does)
  slot_law k n place stage s node words a (what.Apply i) run at is here set le goes acts reads =
      let x = applied_here k n place stage s node words a i run at is here goes reads in
      let t = x.table in
      let hit = hit_of t.kind t.key (entries n) (state n) in
      let value : slice_index outcomes n ≡ hit_outcome hit =
      run_outcome n node run at.node_is goes ∙ ap (node_outcome p (entries n) (state n)) is
      ∙ ap (λ o. unwrap_or (option_map (λ (y : Table). hit_outcome (hit_of y.kind y.key (entries n) (state n))) o) 0) x.listed in
      by_found k n place stage s node words a t hit run at here x.carried.last set le acts x.looks_there (run.finds n t x.table_is) x.sets value

  -- a node that runs has an outcome
  hit_some_outcome : (o : Option Entry) → hit_outcome o ≡ 0 → ⊥
  hit_some_outcome None e = omega (arith, e)
  hit_some_outcome (Some x) e = omega (arith, e)

  test_outcome : (b : Bool) (x : ℕ) → x ≡ cond b 2 1 → x ≡ 0 → ⊥
  test_outcome true x e none = omega (arith, e, none)
  test_outcome false x e none = omega (arith, e, none)

  pub some_outcome : (n k : ℕ) (w : What) → IsSetIn p parts c v (entries n) (state n) n w k → node_outcome p (entries n) (state n) w ≡ 0 → ⊥
  some_outcome n k (what.Apply i) sets e =
      let table = some_and (slice_get p.tables i) (λ (t : Table). TableSetIn p parts c v n t (joined p t.key (state n)) k (hit_of t.kind t.key (entries n) (state n))) sets in
      let t = table.0 in
      hit_some_outcome (hit_of t.kind t.key (entries n) (state n))
      (sym (ap (λ o. unwrap_or (option_map (λ (x : Table). hit_outcome (hit_of x.kind x.key (entries n) (state n))) o) 0) table.1) ∙ e)
  some_outcome n k (what.Gate field test) sets e =
      test_outcome (passes test (slice_index (state n) field)) (node_outcome p (entries n) (state n) (what.Gate field test)) refl e

  -- a node that doesn't run has no outcome
  no_outcome : (n : ℕ) (node : Node) → IsRun → slice_get p.nodes n ≡ Some node → runs node.guard outcomes ≡ false → slice_index outcomes n ≡ 0
  no_outcome n node run is_node off = run.given n node is_node ∙ ap (λ b. cond b (node_outcome p (entries n) (state n) node.what) 0) off

  none_before : (k n : ℕ) → slice_index outcomes n ≡ 0 → cond (is_set k n n) (slice_index outcomes n) 0 ≡ cond (is_set k (n + 1) n) (slice_index outcomes n) 0
  none_before k n none =
      ap (λ x. cond (is_set k n n) x 0) none ∙ either_same (is_set k n n) 0 ∙ sym (ap (λ x. cond (is_set k (n + 1) n) x 0) none ∙ either_same (is_set k (n + 1) n) 0)

  -- a unit stops where its node doesn't run or has its outcome, and else it acts
  pub record Stops (k n : ℕ) (u : Unit) (node : Node) (now : List ℕ) : Type 0 where
    pub stopped : chip_runs (node_of u) (guard_in u) now ≡ false
    pub why : (runs node.guard outcomes ≡ false) ⊎ (set_in n < k)

  pub record Starts (k n : ℕ) (u : Unit) (node : Node) (now : List ℕ) : Type 0 where
    pub goes : runs node.guard outcomes ≡ true
    pub later : k ≤ set_in n
    pub acts : chip_runs (node_of u) (guard_in u) now ≡ true

  pub unit_turn : (k n place : ℕ) (stage : Stage) (u : Unit) (node : Node) (now : List ℕ) → IsRun → IsAt k n place stage u node → AreSet k n now → Stops k n u node now ⊎ Starts k n u node now
  unit_turn k n place stage u node now run at set = by_run (runs node.guard outcomes) refl
    where
      tested : (r : Bool) (x : ℕ) → runs node.guard outcomes ≡ r → slice_index now n ≡ x → chip_runs (node_of u) (guard_in u) now ≡ (r && (x == 0))
      tested r x is e =
          ap (λ b. b && (slice_index now (node_of u) == 0)) (guard_right k n place stage u node now run at set ∙ is)
          ∙ ap (λ m. r && (slice_index now m == 0)) at.carried.number ∙ ap (λ y. r && (y == 0)) e

      by_run : (r : Bool) → runs node.guard outcomes ≡ r → Stops k n u node now ⊎ Starts k n u node now
      by_run false off = inl (record { stopped = tested false (slice_index now n) off refl; why = inl off })
      by_run true goes = elim (cases_lt (set_in n) k) [
        | inl lt ↦
            let value = set.each n at.within ∙ ap (λ b. cond b (slice_index outcomes n) 0) (own_before k n lt n) in
            let some : (slice_index outcomes n ≡ 0) → ⊥ = λ e. some_outcome n (set_in n) node.what (run.sets n node at.node_is goes) (sym (run_outcome n node run at.node_is goes) ∙ e) in
            inl (record { stopped = tested true (slice_index outcomes n) goes value ∙ eqb_false (slice_index outcomes n) 0 some; why = inr lt })
        | inr le ↦ inr (record { goes = goes; later = le; acts = tested true 0 goes (set.each n at.within ∙ ap (λ b. cond b (slice_index outcomes n) 0) (own_unset k n le)) })
      ]

  acting : (k n place : ℕ) (stage : Stage) (u : Unit) (node : Node) (words : Words) (a : Acts) → IsRun → IsAt k n place stage u node → a.place ≡ place → AreSet k n a.outcomes
      → Starts k n u node a.outcomes → ReadsAs words n node.what → AreSet k (n + 1) (unit_acts (look_in c v) k stage words a u).outcomes
  acting k n place stage (Gate g) node words a run at here set on reads = gate_law k n place stage g node words a node.what run at refl set on.later on.goes on.acts reads
  acting k n place stage (Slot s) node words a run at here set on reads = slot_law k n place stage s node words a node.what run at refl here set on.later on.goes on.acts reads

  -- a unit of stage k: after it the outcome of its node is set too, where that is set in this stage
  pub unit_law : (k n place : ℕ) (stage : Stage) (u : Unit) (node : Node) (words : Words) (a : Acts) → IsRun → IsAt k n place stage u node
      → a.place ≡ place → AreSet k n a.outcomes → (runs node.guard outcomes ≡ true → k ≤ set_in n → ReadsAs words n node.what)
      → AreSet k (n + 1) (unit_acts (look_in c v) k stage words a u).outcomes
  unit_law k n place stage u node words a run at here set reads = elim (unit_turn k n place stage u node a.outcomes run at set) [
    | inl off ↦ subst (AreSet k (n + 1)) (sym (unit_off k stage words a u off.stopped)) (stays k n a.outcomes set (set.each n at.within ∙ same off.why))
    | inr on ↦ acting k n place stage u node words a run at here set on (reads on.goes on.later)
  ]
    where
      same : (runs node.guard outcomes ≡ false) ⊎ (set_in n < k) → cond (is_set k n n) (slice_index outcomes n) 0 ≡ cond (is_set k (n + 1) n) (slice_index outcomes n) 0
      same (inl off) = none_before k n (no_outcome n node run at.node_is off)
      same (inr lt) = ap (λ b. cond b (slice_index outcomes n) 0) (own_before k n lt n ∙ sym (own_before k n lt (n + 1)))

  -- ---- all units of a stage

  -- a node has quanta in the stage in which its outcome is set
  pub stands_where_set : (n k : ℕ) (w : What) → UnitsCarried p places parts starts c → n < length p.nodes → IsSetIn p parts c v (entries n) (state n) n w k → 0 < quanta_in parts n k
  stands_where_set n k (what.Gate field test) units within sets = sets.0
  stands_where_set n k (what.Apply i) units within sets =
      let table = some_and (slice_get p.tables i) (λ (t : Table). TableSetIn p parts c v n t (joined p t.key (state n)) k (hit_of t.kind t.key (entries n) (state n))) sets in
      by_hit table.0 (hit_of table.0.kind table.0.key (entries n) (state n)) table.2
    where
      by_hit : (t : Table) (o : Option Entry) → TableSetIn p parts c v n t (joined p t.key (state n)) k o → 0 < quanta_in parts n k
      by_hit t None e =
          subst (λ j. 0 < quanta_in parts n j) (sym e)
          (stands_in_last parts n
          (All-weaker (λ (x : Part). (x.node < length p.nodes) × (x.stage < length c.stages) × (0 < x.quanta)) (λ (x : Part). 0 < x.quanta) (λ x h. h.2) parts units.no_other)
          (units.each_node n within))
      by_hit t (Some x) h =
          let f = h.0 in
          let part : IsPart c n f.k f.place f.stage f.slot = record { stage_is = f.stage_is; slot_is = f.slot_is; node_is = f.node_is } in
          subst (λ j. 0 < quanta_in parts n j) h.1 (quanta_of_node p parts f.k f.place n (unit_of_part p places parts starts c n f.k f.place f.stage f.slot units part).0)

  -- a node that doesn't stand in a stage
  pub not_there : (k n : ℕ) (node : Node) (now : List ℕ) → IsRun → slice_get p.nodes n ≡ Some node → n < length p.nodes → nat_lt 0 (quanta_in parts n k) ≡ false → AreSet k n now → AreSet k (n + 1) now
  not_there k n node now run is_node within off set = stays k n now set (set.each n within ∙ by_run (runs node.guard outcomes) refl)
    where
      by_run : (r : Bool) → runs node.guard outcomes ≡ r → cond (is_set k n n) (slice_index outcomes n) 0 ≡ cond (is_set k (n + 1) n) (slice_index outcomes n) 0
      by_run false e = none_before k n (no_outcome n node run is_node e)
      by_run true e =
          let other : (set_in n == k) ≡ false = eqb_false (set_in n) k (λ same.
          both_ways (nat_lt 0 (quanta_in parts n k)) off
          (lt-ltb 0 (quanta_in parts n k) (subst (λ j. 0 < quanta_in parts n j) same (stands_where_set n (set_in n) node.what run.units within (run.sets n node is_node e))))) in
          ap (λ b. cond (nat_lt (set_in n) k || (b && nat_lt n n)) (slice_index outcomes n) 0) other
          ∙ sym (ap (λ b. cond (nat_lt (set_in n) k || (b && nat_lt n (n + 1))) (slice_index outcomes n) 0) other)

  -- what is read at the start of a stage, by the nodes that may act there
  abbrev pub StageReads : ℕ → Words → Type 0
  StageReads k words = (n : ℕ) (node : Node) → slice_get p.nodes n ≡ Some node → 0 < quanta_in parts n k → runs node.guard outcomes ≡ true → k ≤ set_in n → ReadsAs words n node.what

  abbrev stands_in : ℕ → ℕ → Bool
  stands_in k n = nat_lt 0 (quanta_in parts n k)

  -- ---- what holds before each node of a stage, and is kept by its unit, or by the node where it doesn't stand there

  pub record IsKept (k : ℕ) (stage : Stage) (words : Words) (Q : ℕ → Acts → Type 0) : Type 0 where
    pub absent : (m : ℕ) (node : Node) (a : Acts) → slice_get p.nodes m ≡ Some node → nat_lt 0 (quanta_in parts m k) ≡ false → Q m a → Q (m + 1) a
    pub acts : (m : ℕ) (u : Unit) (node : Node) (a : Acts) → IsAt k m a.place stage u node → 0 < quanta_in parts m k → Q m a
        → Q (m + 1) (unit_acts (look_in c v) k stage words a u)

  module _ (k : ℕ) (stage : Stage) (words : Words) (Q : ℕ → Acts → Type 0) (stage_is : slice_get c.stages k ≡ Some stage) (kept : IsKept k stage words Q) where
    -- the units of the nodes from number m on
    abbrev FromNode : ℕ → List ℕ → Type 0
    FromNode m ns =
        (us : List Unit) (a : Acts) → AllZip (UnitCarried p places parts k) ns us → drop a.place stage.units ≡ us → drop a.place (nodes_in p parts k) ≡ ns
        → Q m a → Q (length p.nodes) (fold (unit_acts (look_in c v) k stage words) a us)

    by_node : (m : ℕ) (node : Node) (ns : List ℕ) (b : Bool) → slice_get p.nodes m ≡ Some node → stands_in k m ≡ b → FromNode (m + 1) ns → FromNode m (cond b (m ∷ ns) ns)
    by_node m node ns false is_node e rest us a zip units nodes holds = rest us a zip units nodes (kept.absent m node a is_node e holds)
    by_node m node ns true is_node e rest [] a zip units nodes holds = absurd zip
    by_node m node ns true is_node e rest (u ∷ us) a zip units nodes holds =
        let unit = drop_head stage.units a.place u us units in
        let number = drop_head (nodes_in p parts k) a.place m ns nodes in
        let at : IsAt k m a.place stage u node = record {
          within = slice_get_within p.nodes m node is_node;
          stage_is = stage_is;
          unit_is = unit.0;
          number = number.0;
          carried = zip.0;
          node_is = is_node;
        } in
        let after = unit_acts (look_in c v) k stage words a u in
        let next : after.place ≡ a.place + 1 = place_after c v k stage words a u in
        rest us after zip.1 (ap (λ i. drop i stage.units) next ∙ unit.1) (ap (λ i. drop i (nodes_in p parts k)) next ∙ number.1)
        (kept.acts m u node a at (ltb-true 0 (quanta_in parts m k) e) holds)

    from_node : (count m : ℕ) → m + count ≡ length p.nodes → FromNode m (filter (stands_in k) (range_with_len m count))
    from_node zero m sum [] a zip units nodes holds = let e : m ≡ length p.nodes = omega (arith, sum) in subst (λ n. Q n a) e holds
    from_node zero m sum (u ∷ us) a zip units nodes holds = absurd zip
    from_node (suc count) m sum us a zip units nodes holds =
        let node = slice_get-item p.nodes m (omega (arith, sum)) in
        by_node m node.0 (filter (stands_in k) (range_with_len (m + 1) count)) (stands_in k m) node.1 refl (from_node count (m + 1) (omega (arith, sum))) us a zip units nodes holds

    -- it holds of what the units of the stage make
    pub kept_through : (now : List ℕ) → UnitsCarried p places parts starts c → Q 0 (record { outcomes = now; running = []; counted = []; place = 0 })
        → Q (length p.nodes) (acts_of (look_in c v) k stage words now)
    kept_through now units holds =
        let zip = and_at (slice_get c.stages k) (λ (s : Stage). AllZip (UnitCarried p places parts k) (nodes_in p parts k) s.units) stage stage_is
        (units.units k (slice_get_within c.stages k stage stage_is)) in
        from_node (length p.nodes) 0 (omega arith) stage.units (record { outcomes = now; running = []; counted = []; place = 0 }) zip refl refl holds

  stage_end : (k : ℕ) (now : List ℕ) → AreSet k (length p.nodes) now → AreSet (k + 1) 0 now
  stage_end k now set = record {
    room = set.room;
    each = λ n lt. set.each n lt ∙ ap (λ b. cond b (slice_index outcomes n) 0) (same n lt);
  }
    where
      same : (n : ℕ) → n < length p.nodes → is_set k (length p.nodes) n ≡ is_set (k + 1) 0 n
      same n lt = grind (arith, nat_tests)

  -- After a stage the outcomes that are set in it are there too.
  pub stage_law : (k : ℕ) (stage : Stage) (words : Words) (now : List ℕ) → IsRun → slice_get c.stages k ≡ Some stage → StageReads k words → AreSet k 0 now
      → AreSet (k + 1) 0 (acts_of (look_in c v) k stage words now).outcomes
  stage_law k stage words now run stage_is reads set =
      stage_end k _
      (kept_through k stage words (λ m a. AreSet k m a.outcomes) stage_is
      (record {
        absent = λ m node a is_node off before. not_there k m node a.outcomes run is_node (slice_get_within p.nodes m node is_node) off before;
        acts = λ m u node a at stands before. unit_law k m a.place stage u node words a run at refl before (reads m node at.node_is stands);
      }) now run.units set)

  -- ---- all stages

  -- what is read at the start of each stage from number k on
  abbrev pub AllRead : ℕ → List Stage → Life → Type 0
  AllRead k [] life = ⊤
  AllRead k (stage ∷ stages) life = StageReads k (life.word stage.start) × AllRead (k + 1) stages (through (look_in c v) k stage life)

  -- behind the last stage every outcome is set
  pub all_set : (now : List ℕ) → IsRun → AreSet (length c.stages) 0 now → (n : ℕ) → n < length p.nodes → slice_index now n ≡ slice_index outcomes n
  all_set now run set n within = set.each n within ∙ by_run (runs node.0.guard outcomes) refl
    where
      node : (x : Node) × (slice_get p.nodes n ≡ Some x)
      node = slice_get-item p.nodes n within

      by_run : (r : Bool) → runs node.0.guard outcomes ≡ r → cond (is_set (length c.stages) 0 n) (slice_index outcomes n) 0 ≡ slice_index outcomes n
      by_run false e =
          let none = no_outcome n node.0 run node.1 e in
          ap (λ x. cond (is_set (length c.stages) 0 n) x 0) none ∙ either_same (is_set (length c.stages) 0 n) 0 ∙ sym none
      by_run true e =
          let stands = stands_where_set n (set_in n) node.0.what run.units within (run.sets n node.0 node.1 e) in
          let y = part_there parts n (set_in n) stands in
          let own = All-contains (λ (x : Part). (x.node < length p.nodes) × (x.stage < length c.stages) × (0 < x.quanta)) parts y.0 run.units.no_other y.1 in
          let lt : set_in n < length c.stages = subst (λ j. j < length c.stages) y.3 own.1 in
          ap (λ b. cond b (slice_index outcomes n) 0) (own_before (length c.stages) n lt 0)

  -- before the first stage none is
  pub none_set : (now : List ℕ) → length p.nodes ≤ length now → ((n : ℕ) → n < length p.nodes → slice_index now n ≡ 0) → AreSet 0 0 now
  none_set now room none = record {
    room = room;
    each = λ n lt. none n lt ∙ sym (ap (λ b. cond b (slice_index outcomes n) 0) (unset n));
  }
    where
      unset : (n : ℕ) → is_set 0 0 n ≡ false
      unset n = grind (arith, nat_tests)
