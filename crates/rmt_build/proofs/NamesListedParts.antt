-- The parts of a table among the stages of a plan: in each stage in which its node has quanta one slot, with its place and its first instruction.
use Rattle.std.proofs.Common.{◌≡◌, ◌≢◌, ℕ, zero, suc, ◌+◌, ◌<◌, ◌∙◌, cond, List, [], ◌∷◌, ◌++◌, Some, length, get_or, refl, sym, ap, subst, ◌⊎◌, inl, inr, arith}
use Rattle.std.specs.Prelude.{All, AllPairs, slice_get, sum_by, take}
use Rattle.std.specs.List.{enumerate_from, flat_map, range_with_len}
use Rattle.std.proofs.lemmas.Bool.{cases_lt, eq-eqb, ne_eqb}
use Rattle.std.proofs.lemmas.List.Concat.{flat_map-append}
use Rattle.std.proofs.lemmas.List.Elements.{All-cons, All-head, All-nil, All-tail, All-weaker}
use Rattle.std.proofs.lemmas.List.FromFn.{get_or-enumerate_from, length-enumerate_from}
use Rattle.std.proofs.lemmas.List.Sums.{sum_by-cons}
use Rattle.std.proofs.lemmas.Option.{none-some, same_Some, slice_get-get_or, slice_get_within}
use Rattle.std.proofs.lemmas.Slice.Zip.{AllZip-long}
use Rattle.rmt_bits.proofs.AllLaws.{All-flat_map, All-slice_get}
use Rattle.rmt_bits.proofs.ListLaws.{AllZip-slice_get, slice_get-item}
use Rattle.rmt_bits.proofs.PairLaws.{AllPairs-head, AllPairs-tail}
use Rattle.rmt_ast.specs.declared.entry.Entry.{Entry}
use Rattle.rmt_ast.specs.EntryLists.{AreEntries}
use Rattle.rmt_config.specs.declared.config.Unit.TheVariants.{Gate, Slot}
use Rattle.rmt_config.specs.Instructions.{first_code, unit_instructions}
use Rattle.rmt_config.specs.Rooms.{PartAt, parts_among, parts_of}
use Rattle.rmt_config.specs.TableForm.{node_of}
use Rattle.rmt_pack.specs.Placements.{quanta_in}
use Rattle.rmt_refine.specs.Units.{UnitCarried, UnitsCarried, applied, nodes_in, table_at}
use Rattle.rmt_refine.specs.View.{as_slot}
use Rattle.rmt_refine.proofs.NodeLaws.{one_place}
use Rattle.rmt_pack.proofs.PartLaws.{IsPart, slot_is_unit, then_some}
use Rattle.rmt_refine.proofs.PartLaws.{quanta_of_node}
use Rattle.rmt_build.specs.Types.{Config, Node, Program, SlotUnit, Stage, Table, Unit}
use Rattle.rmt_filling.specs.declared.plan.Plan.{Plan}
use Rattle.rmt_build.specs.BuiltStage.{IsBuiltStage}
use Rattle.rmt_build.specs.Plans.{AreStands}
use Rattle.rmt_build.specs.Told.{cells_told}
use Rattle.rmt_build.proofs.CellsLaws.{part_in}

-- ---- units of different nodes

abbrev pub part_at : ℕ → ℕ → ℕ → SlotUnit → PartAt
part_at k place first slot = record { stage = k; place = place; first = first; slot = slot }

moved : (k a b f g : ℕ) (s : SlotUnit) → a ≡ b → f ≡ g → part_at k a f s ∷ [] ≡ part_at k b g s ∷ []
moved k a b f g s e h = ap (λ m. part_at k m f s ∷ []) e ∙ ap (λ m. part_at k b m s ∷ []) h

-- a node has no part among the units of others
no_part : (node k place first : ℕ) (units : List Unit) → All (λ (u : Unit). node_of u ≢ node) units → parts_among node k place first units ≡ []
no_part node k place first [] other = refl
no_part node k place first ((Gate g) ∷ units) other = no_part node k (place + 1) first units (All-tail (λ (u : Unit). node_of u ≢ node) (Gate g) units other)
no_part node k place first ((Slot s) ∷ units) other =
    ap (λ b. cond b (part_at k place first s ∷ []) [] ++ parts_among node k (place + 1) (first + s.actions + 1) units)
    (ne_eqb s.node node (All-head (λ (u : Unit). node_of u ≢ node) (Slot s) units other))
    ∙ no_part node k (place + 1) (first + s.actions + 1) units (All-tail (λ (u : Unit). node_of u ≢ node) (Slot s) units other)

-- and where no two units are of one node, it has one where a slot is its own
one_part : (node k place first i : ℕ) (units : List Unit) (s : SlotUnit) → AllPairs (λ (u v : Unit). node_of u ≢ node_of v) units → slice_get units i ≡ Some (Slot s) → s.node ≡ node
    → parts_among node k place first units ≡ part_at k (place + i) (first + sum_by unit_instructions (take i units)) s ∷ []
one_part node k place first i [] s apart at is = absurd (none-some (Slot s) at)
one_part node k place first zero ((Gate g) ∷ units) s apart at is = absurd (none-some s (ap as_slot (same_Some (Gate g) (Slot s) at)))
one_part node k place first zero ((Slot x) ∷ units) s apart at is =
    let same : x ≡ s = same_Some x s (ap as_slot (same_Some (Slot x) (Slot s) at)) in
    let here : x.node ≡ node = ap (λ (y : SlotUnit). y.node) same ∙ is in
    let others : All (λ (v : Unit). node_of v ≢ node) units =
    All-weaker (λ (v : Unit). x.node ≢ node_of v) (λ (v : Unit). node_of v ≢ node) (λ v ne e. ne (here ∙ sym e)) units
    (AllPairs-head (λ (u v : Unit). node_of u ≢ node_of v) (Slot x) units apart) in
    let p : place ≡ place + 0 = omega arith in
    let f : first ≡ first + 0 = omega arith in
    ap (λ b. cond b (part_at k place first x ∷ []) [] ++ parts_among node k (place + 1) (first + x.actions + 1) units) (eq-eqb x.node node here)
    ∙ ap (λ more. part_at k place first x ∷ more) (no_part node k (place + 1) (first + x.actions + 1) units others)
    ∙ moved k place (place + 0) first (first + 0) x p f
    ∙ ap (λ y. part_at k (place + 0) (first + 0) y ∷ []) same
one_part node k place first (suc i) ((Gate g) ∷ units) s apart at is =
    let before = sum_by unit_instructions (take i units) in
    let sums : sum_by unit_instructions (take (suc i) (Gate g ∷ units)) ≡ 0 + before = sum_by-cons unit_instructions (Gate g) (take i units) in
    one_part node k (place + 1) first i units s (AllPairs-tail (λ (u v : Unit). node_of u ≢ node_of v) (Gate g) units apart) at is
    ∙ moved k (place + 1 + i) (place + suc i) (first + before) (first + sum_by unit_instructions (take (suc i) (Gate g ∷ units))) s (omega arith) (omega (arith, sums))
one_part node k place first (suc i) ((Slot x) ∷ units) s apart at is =
    let before = sum_by unit_instructions (take i units) in
    let sums : sum_by unit_instructions (take (suc i) (Slot x ∷ units)) ≡ x.actions + 1 + before = sum_by-cons unit_instructions (Slot x) (take i units) in
    let other : x.node ≢ s.node =
    All-slice_get (λ (v : Unit). x.node ≢ node_of v) units i (Slot s) (AllPairs-head (λ (u v : Unit). node_of u ≢ node_of v) (Slot x) units apart) at in
    ap (λ b. cond b (part_at k place first x ∷ []) [] ++ parts_among node k (place + 1) (first + x.actions + 1) units) (ne_eqb x.node node (λ e. other (e ∙ sym is)))
    ∙ one_part node k (place + 1) (first + x.actions + 1) i units s (AllPairs-tail (λ (u v : Unit). node_of u ≢ node_of v) (Slot x) units apart) at is
    ∙ moved k (place + 1 + i) (place + suc i) (first + x.actions + 1 + before) (first + sum_by unit_instructions (take (suc i) (Slot x ∷ units))) s (omega arith) (omega (arith, sums))

-- ---- what is listed part by part

-- is listed stage by stage
pub by_stage : {A : Type 0} (f : PartAt → List A) (node m : ℕ) (of : ℕ → List A) (stages : List Stage)
    → ((i : ℕ) (stage : Stage) → slice_get stages i ≡ Some stage → flat_map f (parts_among node (m + i) 0 0 stage.units) ≡ of (m + i))
    → flat_map f (flat_map (λ (x : ℕ × Stage). parts_among node x.0 0 0 x.1.units) (enumerate_from m stages)) ≡ flat_map of (range_with_len m (length stages))
by_stage f node m of [] each = refl
by_stage f node m of (stage ∷ stages) each =
    let rest = flat_map (λ (x : ℕ × Stage). parts_among node x.0 0 0 x.1.units) (enumerate_from (m + 1) stages) in
    let none : m + 0 ≡ m = omega arith in
    let here : flat_map f (parts_among node m 0 0 stage.units) ≡ of m =
    subst (λ k. flat_map f (parts_among node k 0 0 stage.units) ≡ of k) none (each 0 stage refl) in
    let later = by_stage f node (m + 1) of stages (λ i s at.
    let e : m + suc i ≡ m + 1 + i = omega arith in
    subst (λ k. flat_map f (parts_among node k 0 0 s.units) ≡ of k) e (each (suc i) s at)) in
    flat_map-append f (parts_among node m 0 0 stage.units) rest
    ∙ ap (λ xs. xs ++ flat_map f rest) here
    ∙ ap (λ xs. of m ++ xs) later

-- ---- the parts of a configuration that is built by a plan

-- a slot of node n, by its place and its first instruction
pub record IsPartOf (c : Config) (n : ℕ) (part : PartAt) : Type 0 where
  pub in_stage : Stage
  pub is : IsPart c n part.stage part.place in_stage part.slot
  pub first_is : part.first ≡ first_code in_stage part.place

-- in stage k a node has one part, or neither a part nor quanta
pub record OnePart (c : Config) (n k : ℕ) (units : List Unit) : Type 0 where
  pub part : PartAt
  pub is : IsPartOf c n part
  pub stage_is : part.stage ≡ k
  pub alone : parts_among n k 0 0 units ≡ part ∷ []

pub record NoPart (plan : Plan) (n k : ℕ) (units : List Unit) : Type 0 where
  pub quanta : quanta_in plan.placement.parts n k ≡ 0
  pub none : parts_among n k 0 0 units ≡ []

module _ (p : Program) (lists : List (List Entry)) (plan : Plan) (c : Config) (entries : AreEntries p lists)
    (units : UnitsCarried p plan.places plan.placement.parts plan.starts c) (stands : AreStands p lists plan.placement.parts plan.stands)
    (built : (k : ℕ) (stage : Stage) → slice_get c.stages k ≡ Some stage → IsBuiltStage p lists plan k stage) where
  -- the node of a unit of stage k
  record IsOfNode (k i : ℕ) (u : Unit) : Type 0 where
    node : ℕ
    listed : slice_get (nodes_in p plan.placement.parts k) i ≡ Some node
    is : node_of u ≡ node

  node_there : (k i : ℕ) (stage : Stage) (d : Unit) → slice_get c.stages k ≡ Some stage → i < length stage.units → IsOfNode k i (get_or stage.units i d)
  node_there k i stage d at lt =
      let parts = plan.placement.parts in
      let zip = (built k stage at).units in
      let long = AllZip-long (UnitCarried p plan.places parts k) (nodes_in p parts k) stage.units zip in
      let n = slice_get-item (nodes_in p parts k) i (omega (arith, long, lt)) in
      let carried = AllZip-slice_get (UnitCarried p plan.places parts k) (nodes_in p parts k) stage.units i n.0 (get_or stage.units i d) zip n.1 (slice_get-get_or stage.units i d lt) in
      record { node = n.0; listed = n.1; is = carried.number }

  -- no two units of a stage are of one node
  nodes_apart : (k : ℕ) (stage : Stage) → slice_get c.stages k ≡ Some stage → AllPairs (λ (u v : Unit). node_of u ≢ node_of v) stage.units
  nodes_apart k stage at i j d lt inside same =
      let a = node_there k i stage d at (omega (arith, lt, inside)) in
      let b = node_there k j stage d at inside in
      omega (arith, lt, one_place p plan.placement.parts k a.node i j a.listed (b.listed ∙ ap Some (sym b.is ∙ sym same ∙ a.is)))

  pub part_of_stage : (n k place : ℕ) (stage : Stage) (slot : SlotUnit) → IsPart c n k place stage slot → parts_among n k 0 0 stage.units ≡ part_at k place (first_code stage place) slot ∷ []
  part_of_stage n k place stage slot part =
      let u = then_some as_slot (slice_get stage.units place) slot part.slot_is in
      let unit_is : slice_get stage.units place ≡ Some (Slot slot) = u.1 ∙ ap Some (slot_is_unit u.0 slot u.2) in
      one_part n k 0 0 place stage.units slot (nodes_apart k stage part.stage_is) unit_is part.node_is
      ∙ moved k (0 + place) place (0 + first_code stage place) (first_code stage place) slot (omega arith) (omega arith)

  no_part_of_stage : (n k : ℕ) (stage : Stage) → slice_get c.stages k ≡ Some stage → quanta_in plan.placement.parts n k ≡ 0 → parts_among n k 0 0 stage.units ≡ []
  no_part_of_stage n k stage at none =
      no_part n k 0 0 stage.units (λ i d lt same.
      let a = node_there k i stage d at lt in
      omega (arith, none, quanta_of_node p plan.placement.parts k i n (a.listed ∙ ap Some (sym a.is ∙ same))))

  module _ (n : ℕ) (t : Table) (table_is : table_at p n ≡ Some t) where
    is_node : n < length p.nodes
    is_node = let node = then_some (λ (x : Node). applied p x.what) (slice_get p.nodes n) t table_is in slice_get_within p.nodes n node.0 node.1

    pub parts_in_stage : (k : ℕ) (stage : Stage) → slice_get c.stages k ≡ Some stage → OnePart c n k stage.units ⊎ NoPart plan n k stage.units
    parts_in_stage k stage at = elim (cases_lt 0 (quanta_in plan.placement.parts n k)) [
      | inl some ↦
          let cells = cells_told (length p.nodes) c.stages in
          let q = part_in p lists plan c cells entries units stands built refl n k t table_is is_node (slice_get_within c.stages k stage at) some in
          let same : q.1 ≡ stage = same_Some q.1 stage (sym q.3.stage_is ∙ at) in
          let part : IsPart c n k q.0 stage q.2 = subst (λ (s : Stage). IsPart c n k q.0 s q.2) same q.3 in
          inl (record {
            part = part_at k q.0 (first_code stage q.0) q.2;
            is = record { in_stage = stage; is = part; first_is = refl };
            stage_is = refl;
            alone = part_of_stage n k q.0 stage q.2 part;
          })
      | inr le ↦
          let none : quanta_in plan.placement.parts n k ≡ 0 = omega (arith, le) in
          inr (record { quanta = none; none = no_part_of_stage n k stage at none })
    ]

    -- each part of the node is a slot of it
    pub each_is_part : All (IsPartOf c n) (parts_of c n)
    each_is_part =
        All-flat_map (IsPartOf c n) (λ (x : ℕ × Stage). parts_among n x.0 0 0 x.1.units) (enumerate_from 0 c.stages) (λ i d lt.
        let inside : i < length c.stages = omega (arith, lt, length-enumerate_from 0 c.stages) in
        let item = get_or-enumerate_from 0 c.stages i d inside in
        subst (λ (x : ℕ × Stage). All (IsPartOf c n) (parts_among n x.0 0 0 x.1.units)) (sym item)
        (by (0 + i) (get_or c.stages i d.1) (let e : i ≡ 0 + i = omega arith in subst (λ k. slice_get c.stages k ≡ Some (get_or c.stages i d.1)) e (slice_get-get_or c.stages i d.1 inside))))
      where
        by : (k : ℕ) (stage : Stage) → slice_get c.stages k ≡ Some stage → All (IsPartOf c n) (parts_among n k 0 0 stage.units)
        by k stage at = elim (parts_in_stage k stage at) [
          | inl one ↦ subst (All (IsPartOf c n)) (sym one.alone) (All-cons (IsPartOf c n) one.part [] one.is (All-nil (IsPartOf c n)))
          | inr absent ↦ subst (All (IsPartOf c n)) (sym absent.none) (All-nil (IsPartOf c n))
        ]
