-- Where a configuration carries entries, each number that its slots list is that of an entry.
use Rattle.std.proofs.Common.{◌≡◌, ℕ, ◌<◌, true, List, Some, get_or, refl, sym, ap, ◌∙◌, subst}
use Rattle.std.specs.Prelude.{All, Contains, option_and_then, option_map, slice_get, unwrap_or}
use Rattle.std.proofs.lemmas.List.Elements.{All-contains_itself, All-map, All-nil, All-contains}
use Rattle.std.proofs.lemmas.Option.{slice_get-get_or}
use Rattle.rmt_bits.proofs.AllLaws.{All-flat_map, All-slice_get}
use Rattle.rmt_core.specs.Types.{Program, Table, Node, What, Config, Stage, Unit, SlotUnit, CellNumber}
use Rattle.rmt_ast.specs.declared.program.What.TheVariants as what
use Rattle.rmt_ast.specs.declared.entry.Entry.{Entry}
use Rattle.rmt_ast.specs.EntryLists.{AreEntries}
use Rattle.rmt_config.specs.declared.config.Unit.TheVariants.{Gate, Slot}
use Rattle.rmt_config.specs.CellForm.{Coded, SlotHolds, StageHolds, entry_numbers, numbers_of_stage, numbers_of_unit}
use Rattle.rmt_config.specs.Cells.{Content, content_of, is_seen, number_of_cell}
use Rattle.rmt_refine.specs.declared.map.Map.{Map}
use Rattle.rmt_refine.specs.View.{as_slot, no_content, own_content, own_number, slot_of}
use Rattle.rmt_refine.specs.Units.{DoesAs, TableCarried, applied, table_at}
use Rattle.rmt_refine.specs.Cells.{Spot}
use Rattle.rmt_refine.specs.Carries.{Carries}
use Rattle.rmt_refine.specs.Outcomes.{entries_at}
use Rattle.rmt_refine.proofs.CellNumberLaws.{cells_listed, coded_slot}
use Rattle.rmt_refine.proofs.OutcomeLaws.{list_at}
use Rattle.rmt_pack.proofs.PartLaws.{IsPart}
use Rattle.rmt_refine.proofs.PartLaws.{slot_of_part, some_and, spot_of_part, unit_of_part}
use Rattle.rmt_update.proofs.SpelledEntries.{number-listed}

-- ---- the table of a slot

table_done : (p : Program) (m : Map) (k n : ℕ) (w : What) (slot : SlotUnit) → DoesAs p m.places m.placement.parts k n w (Slot slot) → (t : Table) × (applied p w ≡ Some t)
table_done p m k n (what.Apply i) slot does =
    let t = some_and (slice_get p.tables i) (λ (x : Table). TableCarried m.places m.placement.parts n k x slot) does in (t.0, t.1)
table_done p m k n (what.Gate field test) slot does = absurd does

module _ (p : Program) (lists : List (List Entry)) (m : Map) (c : Config) (visible : ℕ) (entries : AreEntries p lists) (carries : Carries p lists m c)
    (memory : All (StageHolds visible) c.stages) where
  own_content_is : (k place cell : ℕ) (stage : Stage) (slot : SlotUnit) → IsPart c slot.node k place stage slot → own_content c k place cell ≡ content_of stage slot cell
  own_content_is k place cell stage slot part =
      ap (λ o. unwrap_or (option_and_then (λ (x : Stage). option_map (λ (y : SlotUnit). content_of x y cell) (slot_of x place)) o) no_content) part.stage_is
      ∙ ap (λ o. unwrap_or (option_map (λ (y : SlotUnit). content_of stage y cell) o) no_content) part.slot_is

  own_number_is : (k place cell : ℕ) (stage : Stage) (slot : SlotUnit) → IsPart c slot.node k place stage slot → own_number c k place cell ≡ number_of_cell slot.numbers cell
  own_number_is k place cell stage slot part =
      ap (λ o. unwrap_or (option_map (λ (y : SlotUnit). number_of_cell y.numbers cell) o) 0) (slot_of_part c slot.node k place stage slot part)

  -- an entry of a list
  record IsOf (number : ℕ) : Type 0 where
    node : ℕ
    entry : Entry
    list_is : slice_get lists node ≡ Some (entries_at lists node)
    there : Contains (entries_at lists node) entry
    number_is : entry.number ≡ number

  entry_of_number : (k place : ℕ) (stage : Stage) (slot : SlotUnit) (x : CellNumber) → IsPart c slot.node k place stage slot → Contains slot.numbers x → IsOf x.number
  entry_of_number k place stage slot x part there =
      let unit = unit_of_part p m.places m.placement.parts m.starts c slot.node k place stage slot carries.units part in
      let node = some_and (slice_get p.nodes slot.node) (λ (n : Node). DoesAs p m.places m.placement.parts k slot.node n.what (Slot slot)) unit.1.does in
      let table = table_done p m k slot.node node.0.what slot node.2 in
      let at_table : table_at p slot.node ≡ Some table.0 = ap (option_and_then (λ (n : Node). applied p n.what)) node.1 ∙ table.1 in
      let list = list_at p lists slot.node node.0 entries node.1 in
      let coded = coded_slot (λ (y : Coded). SlotHolds visible stage y.first y.slot) stage.units 0 place slot part.slot_is (All-slice_get (StageHolds visible) c.stages k stage memory part.stage_is) in
      let listed = cells_listed visible stage coded.0 slot coded.1 in
      let cells = carries.cells.tables slot.node table.0 (entries_at lists slot.node) at_table list.0 in
      let spot : Spot = record { stage = k; place = place; cell = x.cell } in
      let is_spot = spot_of_part c slot.node k place x.cell stage slot part (listed.within x there) in
      let seen : is_seen (own_content c k place x.cell).head ≡ true =
      ap (λ (y : Content). is_seen y.head) (own_content_is k place x.cell stage slot part) ∙ listed.seen x there in
      let e = cells.only spot is_spot seen in
      let holds = cells.holds e.0 spot stage e.1 is_spot e.2 part.stage_is in
      record {
        node = slot.node;
        entry = e.0;
        list_is = list.0;
        there = e.1;
        number_is = sym holds.number_is ∙ own_number_is k place x.cell stage slot part ∙ number-listed slot.numbers x listed.rises there;
      }

  -- ---- so their numbers are below what the numbers of entries are below

  module _ (n : ℕ) (below : All (λ es. All (λ (e : Entry). e.number < n) es) lists) where
    unit_below : (k place : ℕ) (stage : Stage) (u : Unit) → slice_get c.stages k ≡ Some stage → slice_get stage.units place ≡ Some u → All (λ x. x < n) (numbers_of_unit u)
    unit_below k place stage (Gate g) stage_is unit_is = All-nil (λ x. x < n)
    unit_below k place stage (Slot slot) stage_is unit_is =
        let part : IsPart c slot.node k place stage slot = record { stage_is = stage_is; slot_is = ap (option_and_then as_slot) unit_is; node_is = refl } in
        All-map (λ x. x < n) (λ (x : CellNumber). x.number) slot.numbers (λ i d lt.
        let x = get_or slot.numbers i d in
        let of = entry_of_number k place stage slot x part (All-contains_itself slot.numbers i d lt) in
        let all = All-slice_get (λ es. All (λ (e : Entry). e.number < n) es) lists of.node (entries_at lists of.node) below of.list_is in
        subst (λ y. y < n) of.number_is (All-contains (λ (e : Entry). e.number < n) (entries_at lists of.node) of.entry all of.there))

    pub numbers_below : All (λ x. x < n) (entry_numbers c)
    numbers_below =
        All-flat_map (λ x. x < n) numbers_of_stage c.stages (λ k d lt.
        let stage = get_or c.stages k d in
        All-flat_map (λ x. x < n) numbers_of_unit stage.units (λ i u lti.
        unit_below k i stage (get_or stage.units i u) (slice_get-get_or c.stages k d lt) (slice_get-get_or stage.units i u lti)))
