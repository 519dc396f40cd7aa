-- From the units of a stage to the stage: its entries can be written, and what is written is what a plan asks.
use Rattle.std.proofs.Common.{◌≡◌, ℕ, zero, suc, ◌<◌, ◌≤◌, true, List, [], ◌∷◌, ◌++◌, Some, length, get_or, sym, ap, ◌∙◌, subst, inl, inr, arith, ◌≢◌}
use Rattle.std.specs.Prelude.{All, AllPairs, Contains, option_and_then, slice_get, slice_index, sum_by}
use Rattle.std.specs.List.{AllZip, flat_map}
use Rattle.std.proofs.lemmas.List.{get_or_default, length-map}
use Rattle.std.proofs.lemmas.List.Elements.{Contains-append_left}
use Rattle.std.proofs.lemmas.Option.{get_or_from_slice_get, none-some, same_Some, slice_get_within}
use Rattle.std.proofs.lemmas.Slice.Zip.{AllZip-long}
use Rattle.rmt_bits.proofs.ListLaws.{slice_get-item, AllZip-slice_get}
use Rattle.rmt_build.specs.Types.{Program, Table, Node, Stage, Unit, GateUnit, SlotUnit, Memory}
use Rattle.rmt_ast.specs.declared.entry.Entry.{Entry}
use Rattle.rmt_ast.specs.EntryLists.{AreEntries, terms_at}
use Rattle.rmt_ast.specs.WellFormed.{IsProgram}
use Rattle.rmt_config.specs.declared.config.Memory.TheVariants as memory
use Rattle.rmt_config.specs.declared.config.Unit.TheVariants.{Gate, Slot}
use Rattle.rmt_config.specs.LaneForm.{bits_of_lanes}
use Rattle.rmt_config.specs.Instructions.{unit_instructions}
use Rattle.rmt_config.specs.Resources.{memory_sram, unit_sram}
use Rattle.rmt_config.specs.StageForm.{memory_sram_blocks, sram_blocks, tcam_blocks}
use Rattle.rmt_pack.specs.Placements.{key_bits, quanta_in}
use Rattle.rmt_pack.proofs.BlockLaws.{apart-both, range-apart}
use Rattle.rmt_bits.proofs.PairLaws.{AllPairs-right}
use Rattle.rmt_phv.specs.Places.{KeepsApart}
use Rattle.rmt_place.specs.Needs.{demands_of, keeps_limits}
use Rattle.rmt_place.specs.Placing.{standing_in}
use Rattle.rmt_ptcam.proofs.PlainLaws.{lanes_bits}
use Rattle.rmt_refine.specs.Units.{UnitCarried, applied, nodes_in, table_at}
use Rattle.rmt_config.specs.TableForm.{node_of}
use Rattle.rmt_refine.specs.View.{as_slot, slot_of}
use Rattle.rmt_bits.proofs.MemberLaws.{Contains-item, Contains-flat_map}
use Rattle.rmt_refine.proofs.PartLaws.{quanta_of_node}
use Rattle.rmt_pack.proofs.PartLaws.{slot_is_unit, then_some}
use Rattle.rmt_filling.specs.declared.plan.Plan.{Plan}
use Rattle.rmt_build.specs.BuiltStage.{HasPart, HaveParts, IsBuiltStage, SmallUnit}
use Rattle.rmt_filling.specs.Holding.{Held}
use Rattle.rmt_filling.specs.Listing.{ListsSram, ListsTcam}
use Rattle.rmt_filling.specs.Memories.{memory_for}
use Rattle.rmt_build.specs.Plans.{IsPlan, need_in, taken_upto}
use Rattle.rmt_build.specs.UnitCode.{DoUnits}
use Rattle.rmt_build.specs.Written.{UnitFits, UnitsApart, UnitsWritten}
use Rattle.rmt_build.proofs.FitLaws.{slot-fits}
use Rattle.rmt_build.proofs.FormBlocks.{AreBlocks, HasMemory, are_blocks}
use Rattle.rmt_build.proofs.FormFits.{zip_at}
use Rattle.rmt_build.proofs.FormStage.{HoldsData, keep_limits, kinds}
use Rattle.rmt_build.proofs.StageLaws.{rows-formed, slot-built}

-- ---- lists without a common item

never_both : (xs ys : List ℕ) (b : ℕ) → AllPairs ◌≢◌ (xs ++ ys) → Contains xs b → Contains ys b → ⊥
never_both xs ys b apart in_x in_y =
    let at_x : get_or xs in_x.0 0 ≡ b = get_or_default xs in_x.0 0 b in_x.1 ∙ in_x.2 in
    let at_y : get_or ys in_y.0 0 ≡ b = get_or_default ys in_y.0 0 b in_y.1 ∙ in_y.2 in
    apart-both xs ys in_x.0 in_y.0 apart in_x.1 in_y.1 (at_x ∙ sym at_y)

-- where no item of joined lists stands twice, no two of the lists have a common one
parts_apart : (blocks : Unit → List ℕ) (units : List Unit) → AllPairs ◌≢◌ (flat_map blocks units) → (i j : ℕ) (u v : Unit) → i < j → slice_get units i ≡ Some u → slice_get units j ≡ Some v
    → (b : ℕ) → Contains (blocks u) b → Contains (blocks v) b → ⊥
parts_apart blocks [] apart i j u v lt at_u at_v b in_u in_v = none-some u at_u
parts_apart blocks (x ∷ xs) apart zero zero u v lt at_u at_v b in_u in_v = omega (arith, lt)
parts_apart blocks (x ∷ xs) apart zero (suc j) u v lt at_u at_v b in_u in_v =
    never_both (blocks x) (flat_map blocks xs) b apart (subst (λ (y : Unit). Contains (blocks y) b) (sym (same_Some x u at_u)) in_u)
    (Contains-flat_map blocks xs v b (Contains-item xs j v at_v) in_v)
parts_apart blocks (x ∷ xs) apart (suc i) zero u v lt at_u at_v b in_u in_v = omega (arith, lt)
parts_apart blocks (x ∷ xs) apart (suc i) (suc j) u v lt at_u at_v b in_u in_v =
    parts_apart blocks xs (AllPairs-right ◌≢◌ (blocks x) (flat_map blocks xs) apart) i j u v (omega (arith, lt)) at_u at_v b in_u in_v

-- rows stand in some of the blocks that a unit lists
in_sram : (m : Memory) (b : ℕ) → Contains (memory_sram_blocks m) b → Contains (memory_sram m) b
in_sram memory.Without b has = has
in_sram (memory.Exact k per d w ks rs cs) b has = Contains-append_left (ks ++ rs) cs b has
in_sram (memory.Ternary d ks rs cs) b has = Contains-append_left rs cs b has

rows_sram : (u : Unit) (b : ℕ) → Contains (sram_blocks u) b → Contains (unit_sram u) b
rows_sram (Gate g) b there = there
rows_sram (Slot s) b there = in_sram s.memory b there

module _ (p : Program) (lists : List (List Entry)) (plan : Plan) (k : ℕ) (program : IsProgram p) (entries : AreEntries p lists) (is : IsPlan p lists plan) (few : k < 32)
    (units : List Unit) (zip : AllZip (UnitCarried p plan.places plan.placement.parts k) (nodes_in p plan.placement.parts k) units) (have : HaveParts p lists plan k units) where
  list_at : (n : ℕ) (t : Table) → table_at p n ≡ Some t → (es : List Entry) × (slice_get lists n ≡ Some es)
  list_at n t table =
      let node = then_some (λ (x : Node). applied p x.what) (slice_get p.nodes n) t table in
      let long = entries.for_each_node ∙ length-map p.nodes (λ (x : Node). terms_at p x.what) in
      slice_get-item lists n (omega (arith, slice_get_within p.nodes n node.0 node.1, long))

  part_at : (i n : ℕ) (s : SlotUnit) (t : Table) → slice_get units i ≡ Some (Slot s) → s.node ≡ n → table_at p n ≡ Some t → (es : List Entry) × (slice_get lists s.node ≡ Some es) × HasPart p plan k s t es
  part_at i n s t at number table =
      let es = list_at n t table in
      let own = ap (slice_get lists) number ∙ es.1 in
      (es.0, own, have i s t es.0 (ap (option_and_then as_slot) at) (ap (table_at p) number ∙ table) own)

  memories : AllZip (HasMemory p program plan.places plan.placement.parts k) (nodes_in p plan.placement.parts k) units
  memories = zip_at (UnitCarried p plan.places plan.placement.parts k) (HasMemory p program plan.places plan.placement.parts k) (nodes_in p plan.placement.parts k) units
      (λ i n u at_n at_u carried s t is_u table.
      (let number : s.node ≡ n = ap node_of (sym is_u) ∙ carried.number in
      (part_at i n s t (at_u ∙ ap Some is_u) number table).2.memory ∙ ap (λ m. memory_for t.kind (need_in p plan.placement.parts t m k) (taken_upto p plan.placement.parts k m)) number)) zip

  data_held : AllZip (λ n u. UnitCarried p plan.places plan.placement.parts k n u × HoldsData p plan.places plan.placement.parts k n u) (nodes_in p plan.placement.parts k) units
  data_held = zip_at (UnitCarried p plan.places plan.placement.parts k) (λ n u. UnitCarried p plan.places plan.placement.parts k n u × HoldsData p plan.places plan.placement.parts k n u)
      (nodes_in p plan.placement.parts k) units
      (λ i n u at_n at_u carried. (carried, λ s t is_u table. (part_at i n s t (at_u ∙ ap Some is_u) (ap node_of (sym is_u) ∙ carried.number) table).2.held)) zip

  blocks : AreBlocks p program plan.places plan.placement.parts k units
  blocks = are_blocks p program plan.places plan.placement.parts k units zip memories

  -- no two units have a block in common
  pub units_apart : AllPairs UnitsApart units
  units_apart i j d lt inside =
      let u = slice_get-item units i (omega (arith, lt, inside)) in
      let v = slice_get-item units j inside in
      let u_is : get_or units i d ≡ u.0 = get_or_from_slice_get units i u.0 d u.1 in
      let v_is : get_or units j d ≡ v.0 = get_or_from_slice_get units j v.0 d v.1 in
      let sram = subst (AllPairs ◌≢◌) (sym blocks.sram) (range-apart 0 (taken_upto p plan.placement.parts k (length p.nodes)).sram) in
      let tcam = subst (AllPairs ◌≢◌) (sym blocks.tcam) (range-apart 0 (taken_upto p plan.placement.parts k (length p.nodes)).tcam) in
      subst (λ (a : Unit). UnitsApart a (get_or units j d)) (sym u_is)
      (subst (UnitsApart u.0) (sym v_is)
      (record {
        sram = λ b in_u in_v. parts_apart unit_sram units sram i j u.0 v.0 lt u.1 v.1 b (rows_sram u.0 b in_u) (rows_sram v.0 b in_v);
        tcam = λ b in_u in_v. parts_apart tcam_blocks units tcam i j u.0 v.0 lt u.1 v.1 b in_u in_v;
      }))

  -- the instructions of a stage are enough
  pub few_code : keeps_limits (standing_in (demands_of p plan.places) plan.placement.parts k) ≡ true → sum_by unit_instructions units ≤ 32
  few_code keeps = (keep_limits p plan.places plan.placement.parts k units keeps zip data_held).code

  fits_at : (i n : ℕ) (u : Unit) → slice_get (nodes_in p plan.placement.parts k) i ≡ Some n → slice_get units i ≡ Some u → UnitCarried p plan.places plan.placement.parts k n u → UnitFits p lists plan k u
  fits_at i n (Gate g) at_n at_u carried = tt
  fits_at i n (Slot s) at_n at_u carried = elim (kinds p plan.places plan.placement.parts k n (Slot s) carried) [
    | inl own ↦
        let same : own.slot ≡ s = slot_same own.slot s own.is in
        let number : s.node ≡ n = carried.number in
        let part = part_at i n s own.table at_u number own.at in
        slot-fits p lists plan k program entries is few s own.table part.0 (ap (table_at p) number ∙ own.at) part.1 (sym (ap (λ (x : SlotUnit). x.actions) same) ∙ own.carried.actions) part.2.memory
        (subst (λ m. 0 < quanta_in plan.placement.parts m k) (sym number) (quanta_of_node p plan.placement.parts k i n at_n))
    | inr gate ↦ absurd (not_gate s gate.gate gate.is)
  ]
    where
      slot_same : (a b : SlotUnit) → Slot b ≡ Slot a → a ≡ b
      slot_same a b e = same_Some a b (sym (ap as_slot e))

      not_gate : (a : SlotUnit) (g : GateUnit) → Slot a ≡ Gate g → ⊥
      not_gate a g e = none-some a (sym (ap as_slot e))

  -- the entries of each can be written
  pub units_fit : All (UnitFits p lists plan k) units
  units_fit i d lt =
      let u = slice_get-item units i lt in
      let u_is : get_or units i d ≡ u.0 = get_or_from_slice_get units i u.0 d u.1 in
      let long = AllZip-long (UnitCarried p plan.places plan.placement.parts k) (nodes_in p plan.placement.parts k) units zip in
      let n = slice_get-item (nodes_in p plan.placement.parts k) i (omega (arith, lt, long)) in
      subst (UnitFits p lists plan k) (sym u_is)
      (fits_at i n.0 u.0 n.1 u.1 (AllZip-slice_get (UnitCarried p plan.places plan.placement.parts k) (nodes_in p plan.placement.parts k) units i n.0 u.0 zip n.1 u.1))

-- ---- the stage

-- the bits of a slot's key
pub slot_keys : (p : Program) (plan : Plan) (k : ℕ) (stage : Stage) → KeepsApart p plan.places → AllZip (UnitCarried p plan.places plan.placement.parts k) (nodes_in p plan.placement.parts k) stage.units
    → (place : ℕ) (slot : SlotUnit) (t : Table) → slot_of stage place ≡ Some slot → table_at p slot.node ≡ Some t → bits_of_lanes slot.keys ≡ key_bits p t
slot_keys p plan k stage apart zip place slot t at table =
    let u = then_some as_slot (slice_get stage.units place) slot at in
    let unit_is : slice_get stage.units place ≡ Some (Slot slot) = u.1 ∙ ap Some (slot_is_unit u.0 slot u.2) in
    let long = AllZip-long (UnitCarried p plan.places plan.placement.parts k) (nodes_in p plan.placement.parts k) stage.units zip in
    let lt = slice_get_within stage.units place (Slot slot) unit_is in
    let n = slice_get-item (nodes_in p plan.placement.parts k) place (omega (arith, lt, long)) in
    let carried = AllZip-slice_get (UnitCarried p plan.places plan.placement.parts k) (nodes_in p plan.placement.parts k) stage.units place n.0 (Slot slot) zip n.1 unit_is in
    elim (kinds p plan.places plan.placement.parts k n.0 (Slot slot) carried) [
      | inl own ↦
          let slot_same : own.slot ≡ slot = same_Some own.slot slot (sym (ap as_slot own.is)) in
          let table_same : own.table ≡ t = same_Some own.table t (sym own.at ∙ ap (table_at p) (sym carried.number) ∙ table) in
          ap (λ (x : SlotUnit). bits_of_lanes x.keys) (sym slot_same) ∙ ap bits_of_lanes own.carried.keys ∙ lanes_bits p plan.places own.table.key apart
          ∙ ap (key_bits p) table_same
      | inr gate ↦ absurd (none-some slot (sym (ap as_slot gate.is)))
    ]

module _ (p : Program) (lists : List (List Entry)) (plan : Plan) (k : ℕ) (program : IsProgram p) (entries : AreEntries p lists) (is : IsPlan p lists plan) (few : k < 32)
    (stage : Stage) (zip : AllZip (UnitCarried p plan.places plan.placement.parts k) (nodes_in p plan.placement.parts k) stage.units) (have : HaveParts p lists plan k stage.units)
    (h : Held) (written : UnitsWritten p lists plan k stage.units (length stage.units) h) (sram : ListsSram h.sram stage.srows) (tcam : ListsTcam h.values h.masks stage.trows) where
  pub stage_built : stage.start ≡ slice_index plan.starts k → DoUnits p plan.places stage.units stage.code → All SmallUnit stage.units → IsBuiltStage p lists plan k stage
  stage_built start code small = record {
    start = start;
    units = zip;
    code = code;
    small = small;
    slots = λ place slot t es at table own.
        (let part = have place slot t es at table own in
        let b = slot-built p lists plan k stage h written sram tcam place slot t es at table own (slot_keys p plan k stage is.places zip place slot t at table) part.held in
        record { memory = part.memory; held = part.held; numbers = part.numbers; holds = b.holds; empty = b.empty; ends = b.ends });
    rows = rows-formed p lists plan k stage h written sram tcam;
    rows_fit = (
      λ i d lt. (let r = sram.each i d lt in (sram.blocks i d lt, r.row, r.bits)),
      sram.few,
    );
    trows_fit = (
      λ i d lt. (let r = tcam.each i d lt in (tcam.blocks i d lt, r.row, r.value, r.mask)),
      tcam.few,
    );
  }
