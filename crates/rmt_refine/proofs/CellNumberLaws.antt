-- Where a configuration carries a program with its own cells, it counts the numbers that the program counts.
use Rattle.std.proofs.Common.{◌≡◌, ℕ, zero, suc, ◌+◌, ◌<◌, Bool, true, false, not, ◌&&◌, ◌==◌, cond, List, [], ◌∷◌, Option, Some, None, map, get_or, refl, sym, ap, ◌∙◌, subst, inl, inr, arith}
use Rattle.std.specs.Prelude.{All, Contains, find, nat_le, nat_lt, option_and_then, option_map, slice_get, unwrap_or}
use Rattle.std.specs.List.{flat_map, list_all, list_any}
use Rattle.std.proofs.lemmas.Bool.{and_parts, both_ways, eq-eqb, eqb-true, ltb-true}
use Rattle.std.proofs.lemmas.List.Elements.{All-head, All-tail, All-contains}
use Rattle.std.proofs.lemmas.Option.{none-some, same_Some}
use Rattle.rmt_bits.proofs.AllLaws.{All-from_test, All-slice_get}
use Rattle.rmt_bits.specs.Counts.{in_order}
use Rattle.rmt_refine.specs.Types.{Program, Table, Node, What, Config, Stage, Unit, SlotUnit, CellNumber, Memory}
use Rattle.rmt_ast.specs.declared.program.What.TheVariants as what
use Rattle.rmt_ast.specs.declared.entry.Entry.{Entry}
use Rattle.rmt_ast.specs.Answers.{counted_numbers, entry_numbers, is_counted}
use Rattle.rmt_ast.specs.EntryLists.{AreEntries}
use Rattle.rmt_ast.specs.State.{width_of}
use Rattle.rmt_config.specs.declared.config.Unit.TheVariants.{Gate, Slot}
use Rattle.rmt_config.specs.declared.config.Memory.TheVariants.{Without, Exact, Ternary}
use Rattle.rmt_config.specs.CellForm.{Coded, SlotHolds, StageHolds, cells_of, coded_from, content_is_formed, is_clear}
use Rattle.rmt_config.specs.Cells.{Content, cells_in, code_of, content_of, is_occupied, is_seen, number_of_cell, visible_bits}
use Rattle.rmt_config.specs.ChipRun.{unit_numbers}
use Rattle.rmt_config.specs.ChipRun.{counted_numbers as chip_numbers}
use Rattle.rmt_config.specs.Order.{rises_from}
use Rattle.rmt_config.proofs.RiseLaws.{all_above}
use Rattle.rmt_refine.specs.declared.map.Map.{Map}
use Rattle.rmt_refine.specs.View.{as_slot, no_content, own_content, own_number, own_view, slot_of}
use Rattle.rmt_refine.specs.Units.{DoesAs, TableCarried, UnitsCarried, applied, table_at}
use Rattle.rmt_refine.specs.Cells.{IsSpotOf, IsTold, Spot, TableCellsCarried}
use Rattle.rmt_refine.specs.Carries.{Carries}
use Rattle.rmt_refine.specs.Listed.{ListTheirCells, ListsItsCells}
use Rattle.rmt_refine.specs.Outcomes.{entries_at}
use Rattle.rmt_refine.proofs.NumberLaws.{counted_is, from_counted, in_counted}
use Rattle.rmt_refine.proofs.OutcomeLaws.{list_at}
use Rattle.rmt_pack.proofs.PartLaws.{IsPart, slot_is_unit, then_some}
use Rattle.rmt_refine.proofs.PartLaws.{part_of_spot, slot_of_part, some_and, spot_of_part, unit_of_part}
use Rattle.rmt_refine.proofs.RisingLaws.{same_order}
use Rattle.rmt_bits.proofs.MemberLaws.{Contains-map, Contains-unmap, Contains-split, Contains-item, Contains-flat_map, flat_from, Contains-from_any}

-- ---- what a slot's memory holds

-- the rules of form of a slot
pub coded_slot : (P : Coded → Type 0) (units : List Unit) (first place : ℕ) (slot : SlotUnit) → option_and_then as_slot (slice_get units place) ≡ Some slot → All P (coded_from first units)
    → (f : ℕ) × P (record { first = f; slot = slot })
coded_slot P [] first place slot e all = absurd (none-some slot e)
coded_slot P ((Gate g) ∷ units) first zero slot e all = absurd (none-some slot e)
coded_slot P ((Gate g) ∷ units) first (suc place) slot e all = coded_slot P units first place slot e all
coded_slot P ((Slot s) ∷ units) first zero slot e all =
    (first, subst (λ x. P (record { first = first; slot = x })) (same_Some s slot e) (All-head P (record { first = first; slot = s }) (coded_from (first + s.actions + 1) units) all))
coded_slot P ((Slot s) ∷ units) first (suc place) slot e all =
    coded_slot P units (first + s.actions + 1) place slot e (All-tail P (record { first = first; slot = s }) (coded_from (first + s.actions + 1) units) all)

-- the number of a cell that is listed
pub listed_number : (numbers : List CellNumber) (least : ℕ) (x : CellNumber) → rises_from least (map (λ (n : CellNumber). n.cell) numbers) ≡ true → Contains numbers x
    → number_of_cell numbers x.cell ≡ x.number
listed_number [] least x rises there = absurd (let lt = there.1 in omega (arith, lt))
listed_number (y ∷ ys) least x rises there = by (y.cell == x.cell) refl (listed_number ys (y.cell + 1) x rest)
  where
    rest : rises_from (y.cell + 1) (map (λ (n : CellNumber). n.cell) ys) ≡ true
    rest = (and_parts _ (rises_from (y.cell + 1) (map (λ (n : CellNumber). n.cell) ys)) rises).1

    by : (b : Bool) → (y.cell == x.cell) ≡ b → (Contains ys x → number_of_cell ys x.cell ≡ x.number)
        → unwrap_or (option_map (λ (n : CellNumber). n.number) (find (λ (n : CellNumber). n.cell == x.cell) (y ∷ ys))) 0 ≡ x.number
    by true e later_is =
        let same : y ≡ x = elim (Contains-split y ys x there) [
          | inl is ↦ is
          | inr later ↦
              let lt = later.1 in
              let here : (get_or ys later.0 x).cell ≡ x.cell = ap (λ (n : CellNumber). n.cell) later.2 in
              let equal = eqb-true y.cell x.cell e in
              absurd (omega (arith, all_above (λ (n : CellNumber). n.cell) (y.cell + 1) ys rest later.0 x later.1, here, equal))
        ] in
        ap (λ b. unwrap_or (option_map (λ (n : CellNumber). n.number) (cond b (Some y) (find (λ (n : CellNumber). n.cell == x.cell) ys))) 0) e
        ∙ ap (λ (n : CellNumber). n.number) same
    by false e later_is =
        ap (λ b. unwrap_or (option_map (λ (n : CellNumber). n.number) (cond b (Some y) (find (λ (n : CellNumber). n.cell == x.cell) ys))) 0) e
        ∙ (elim (Contains-split y ys x there) [
          | inl is ↦ absurd (both_ways (y.cell == x.cell) e (eq-eqb y.cell x.cell (ap (λ (n : CellNumber). n.cell) is)))
          | inr later ↦ later_is later
        ])

head_clear : (content : Content) → (content.head == 0) ≡ true → is_seen content.head ≡ false
head_clear content e = ap is_seen (eqb-true content.head 0 e)

-- a cell that is clear isn't seen
clear_unseen : (m : Memory) (content : Content) (n : ℕ) → n < cells_in m → is_clear m content ≡ true → is_seen content.head ≡ false
clear_unseen Without content n lt clear = absurd (omega (arith, lt))
clear_unseen (Exact k per d first ks rs cs) content n lt clear =
    let head = and_parts (content.head == 0) (content.key == 0) (and_parts ((content.head == 0) && (content.key == 0)) (content.held == 0) clear).0 in
    head_clear content head.0
clear_unseen (Ternary d ks rs cs) content n lt clear =
    let first = and_parts ((content.head == 0) && (content.key == 0)) (content.held == 0)
    (and_parts ((content.head == 0) && (content.key == 0) && (content.held == 0)) (content.mask == 0) clear).0 in
    head_clear content (and_parts (content.head == 0) (content.key == 0) first.0).0

-- the rules of form ask that a slot lists its occupied cells
pub cells_listed : (visible : ℕ) (stage : Stage) (first : ℕ) (slot : SlotUnit) → SlotHolds visible stage first slot → ListsItsCells stage slot
cells_listed visible stage first slot holds = record {
  rises = front.0;
  within = λ n there. ltb-true n.cell (cells_in slot.memory) (All-contains (λ x. nat_lt x (cells_in slot.memory) ≡ true) (cells_of slot) n.cell all_within (cell_there n there));
  seen = λ n there. head_seen (content_of stage slot n.cell) (All-contains (λ x. content_is_formed visible first slot (content_of stage slot x) ≡ true) (cells_of slot) n.cell all_formed (cell_there n there));
  others = λ n lt seen. by n lt seen (list_any (λ m. m == n) (cells_of slot)) refl;
}
  where
    parts : ((rises_from 0 (cells_of slot) && list_all (λ n. nat_lt n (cells_in slot.memory)) (cells_of slot)) ≡ true)
        × (list_all (λ n. content_is_formed visible first slot (content_of stage slot n)) (cells_of slot) ≡ true)
    parts =
        and_parts (rises_from 0 (cells_of slot) && list_all (λ n. nat_lt n (cells_in slot.memory)) (cells_of slot))
        (list_all (λ n. content_is_formed visible first slot (content_of stage slot n)) (cells_of slot)) holds.numbers

    front : (rises_from 0 (cells_of slot) ≡ true) × (list_all (λ n. nat_lt n (cells_in slot.memory)) (cells_of slot) ≡ true)
    front = and_parts (rises_from 0 (cells_of slot)) (list_all (λ n. nat_lt n (cells_in slot.memory)) (cells_of slot)) parts.0

    all_within : All (λ x. nat_lt x (cells_in slot.memory) ≡ true) (cells_of slot)
    all_within = All-from_test (λ x. nat_lt x (cells_in slot.memory) ≡ true) (λ x. nat_lt x (cells_in slot.memory)) (λ x e. e) (cells_of slot) front.1

    all_formed : All (λ x. content_is_formed visible first slot (content_of stage slot x) ≡ true) (cells_of slot)
    all_formed =
        All-from_test (λ x. content_is_formed visible first slot (content_of stage slot x) ≡ true) (λ x. content_is_formed visible first slot (content_of stage slot x)) (λ x e. e) (cells_of slot) parts.1

    cell_there : (n : CellNumber) → Contains slot.numbers n → Contains (cells_of slot) n.cell
    cell_there n there = Contains-map (λ (x : CellNumber). x.cell) slot.numbers n there

    head_seen : (x : Content) → content_is_formed visible first slot x ≡ true → is_seen x.head ≡ true
    head_seen x e =
        let two = is_occupied x.head && (visible_bits x.head == visible) in
        let three = two && nat_le first (code_of x.head) in
        (and_parts (is_occupied x.head) (visible_bits x.head == visible)
        (and_parts two (nat_le first (code_of x.head)) (and_parts three (nat_lt (code_of x.head) (first + slot.actions)) e).0).0).0

    by : (n : ℕ) → n < cells_in slot.memory → is_seen (content_of stage slot n).head ≡ true → (b : Bool) → list_any (λ m. m == n) (cells_of slot) ≡ b → Contains (cells_of slot) n
    by n lt seen true e = Contains-from_any (cells_of slot) n e
    by n lt seen false e =
        let clear = holds.others n lt (ap not e) in
        absurd (both_ways (is_seen (content_of stage slot n).head) (clear_unseen slot.memory (content_of stage slot n) n lt clear) seen)

-- so each slot of a configuration does
pub all_listed : (visible : ℕ) (c : Config) → All (StageHolds visible) c.stages → ListTheirCells c
all_listed visible c memory k place stage slot at there =
    let coded = coded_slot (λ (x : Coded). SlotHolds visible stage x.first x.slot) stage.units 0 place slot there (All-slice_get (StageHolds visible) c.stages k stage memory at) in
    cells_listed visible stage coded.0 slot coded.1

-- ---- the table of a slot

pub does_table : (p : Program) (m : Map) (k n : ℕ) (w : What) (slot : SlotUnit) → DoesAs p m.places m.placement.parts k n w (Slot slot)
    → (t : Table) × (applied p w ≡ Some t) × TableCarried m.places m.placement.parts n k t slot
does_table p m k n (what.Apply i) slot does = some_and (slice_get p.tables i) (λ (t : Table). TableCarried m.places m.placement.parts n k t slot) does
does_table p m k n (what.Gate field test) slot does = absurd does

pub record PartTable (p : Program) (m : Map) (n k : ℕ) (slot : SlotUnit) : Type 0 where
  pub node : Node
  pub table : Table
  pub node_is : slice_get p.nodes n ≡ Some node
  pub applied_is : applied p node.what ≡ Some table
  pub table_is : table_at p n ≡ Some table
  pub carried : TableCarried m.places m.placement.parts n k table slot

pub part_table : (p : Program) (m : Map) (c : Config) (n k place : ℕ) (stage : Stage) (slot : SlotUnit) → UnitsCarried p m.places m.placement.parts m.starts c → IsPart c n k place stage slot → PartTable p m n k slot
part_table p m c n k place stage slot units part =
    let unit = unit_of_part p m.places m.placement.parts m.starts c n k place stage slot units part in
    let node = some_and (slice_get p.nodes n) (λ (x : Node). DoesAs p m.places m.placement.parts k n x.what (Slot slot)) unit.1.does in
    let table = does_table p m k n node.0.what slot node.2 in
    record {
      node = node.0;
      table = table.0;
      node_is = node.1;
      applied_is = table.1;
      table_is = ap (option_and_then (λ (x : Node). applied p x.what)) node.1 ∙ table.1;
      carried = table.2;
    }

pub counted_table : (p : Program) (w : What) → is_counted p w ≡ true → (t : Table) × (applied p w ≡ Some t) × (t.counted ≡ true)
counted_table p (what.Gate field test) e = absurd (both_ways false refl e)
counted_table p (what.Apply i) e = by_table (slice_get p.tables i) refl e
  where
    by_table : (o : Option Table) → slice_get p.tables i ≡ o → unwrap_or (option_map (λ (t : Table). t.counted) o) false ≡ true → (t : Table) × (slice_get p.tables i ≡ Some t) × (t.counted ≡ true)
    by_table None is h = absurd (both_ways false refl h)
    by_table (Some t) is h = (t, is, h)

-- ---- the numbers of a configuration

module _ (p : Program) (lists : List (List Entry)) (m : Map) (c : Config) (entries : AreEntries p lists) (carries : Carries p lists m c) where
  -- what is known of a slot: its node, its table, and its cells
  record SlotKnown (k place : ℕ) (stage : Stage) (slot : SlotUnit) : Type 0 where
    own : PartTable p m slot.node k slot
    listed : ListsItsCells stage slot
    list_is : slice_get lists slot.node ≡ Some (entries_at lists slot.node)
    cells : TableCellsCarried p c (own_view c) m.cells slot.node own.table (map (width_of p) own.table.key) (entries_at lists slot.node)

  slot_known : (k place : ℕ) (stage : Stage) (slot : SlotUnit) → IsPart c slot.node k place stage slot → SlotKnown k place stage slot
  slot_known k place stage slot part =
      let own = part_table p m c slot.node k place stage slot carries.units part in
      let list = list_at p lists slot.node own.node entries own.node_is in
      record {
        own = own;
        listed = carries.listed k place stage slot part.stage_is part.slot_is;
        list_is = list.0;
        cells = carries.cells.tables slot.node own.table (entries_at lists slot.node) own.table_is list.0;
      }

  own_part : (n k place : ℕ) (stage : Stage) (slot : SlotUnit) → IsPart c n k place stage slot → IsPart c slot.node k place stage slot
  own_part n k place stage slot part = record { stage_is = part.stage_is; slot_is = part.slot_is; node_is = refl }

  own_content_is : (n k place cell : ℕ) (stage : Stage) (slot : SlotUnit) → IsPart c n k place stage slot → own_content c k place cell ≡ content_of stage slot cell
  own_content_is n k place cell stage slot part =
      ap (λ o. unwrap_or (option_and_then (λ (x : Stage). option_map (λ (y : SlotUnit). content_of x y cell) (slot_of x place)) o) no_content) part.stage_is
      ∙ ap (λ o. unwrap_or (option_map (λ (y : SlotUnit). content_of stage y cell) o) no_content) part.slot_is

  own_number_is : (n k place cell : ℕ) (stage : Stage) (slot : SlotUnit) → IsPart c n k place stage slot → own_number c k place cell ≡ number_of_cell slot.numbers cell
  own_number_is n k place cell stage slot part = ap (λ o. unwrap_or (option_map (λ (y : SlotUnit). number_of_cell y.numbers cell) o) 0) (slot_of_part c n k place stage slot part)

  -- ---- each number of a counted slot is that of an entry

  told : (k place : ℕ) (stage : Stage) (slot : SlotUnit) (x : CellNumber) → IsPart c slot.node k place stage slot → slot.counted ≡ true → Contains slot.numbers x
      → Contains (counted_numbers p p.nodes lists) x.number
  told k place stage slot x part counted there =
      let known = slot_known k place stage slot part in
      let spot : Spot = record { stage = k; place = place; cell = x.cell } in
      let is_spot = spot_of_part c slot.node k place x.cell stage slot part (known.listed.within x there) in
      let seen : is_seen (own_content c k place x.cell).head ≡ true =
      ap (λ (y : Content). is_seen y.head) (own_content_is slot.node k place x.cell stage slot part) ∙ known.listed.seen x there in
      let e = known.cells.only spot is_spot seen in
      let holds = known.cells.holds e.0 spot stage e.1 is_spot e.2 part.stage_is in
      let number : e.0.number ≡ x.number =
      sym holds.number_is ∙ own_number_is slot.node k place x.cell stage slot part ∙ listed_number slot.numbers 0 x known.listed.rises there in
      in_counted p p.nodes lists slot.node known.own.node (entries_at lists slot.node) x.number known.own.node_is known.list_is
      (counted_is p known.own.node.what known.own.table known.own.applied_is ∙ sym known.own.carried.counted ∙ counted)
      (subst (Contains (entry_numbers (entries_at lists slot.node))) number (Contains-map (λ (y : Entry). y.number) (entries_at lists slot.node) e.0 e.1))

  unit_told : (k place : ℕ) (stage : Stage) (u : Unit) (n : ℕ) → slice_get c.stages k ≡ Some stage → slice_get stage.units place ≡ Some u → Contains (unit_numbers u) n
      → Contains (counted_numbers p p.nodes lists) n
  unit_told k place stage (Gate g) n stage_is unit_is there = absurd (let lt = there.1 in omega (arith, lt))
  unit_told k place stage (Slot slot) n stage_is unit_is there = by slot.counted refl there
    where
      part : IsPart c slot.node k place stage slot
      part = record { stage_is = stage_is; slot_is = ap (option_and_then as_slot) unit_is; node_is = refl }

      by : (b : Bool) → slot.counted ≡ b → Contains (cond b (map (λ (x : CellNumber). x.number) slot.numbers) []) n → Contains (counted_numbers p p.nodes lists) n
      by true e h =
          let x = Contains-unmap (λ (y : CellNumber). y.number) slot.numbers n h in
          subst (Contains (counted_numbers p p.nodes lists)) x.2 (told k place stage slot x.0 part e x.1)
      by false e h = absurd (let lt = h.1 in omega (arith, lt))

  pub all_told : (n : ℕ) → Contains (chip_numbers c) n → Contains (counted_numbers p p.nodes lists) n
  all_told n there =
      let stage = flat_from (λ (x : Stage). flat_map unit_numbers x.units) c.stages n there in
      let unit = flat_from unit_numbers stage.1.units n stage.3 in
      unit_told stage.0 unit.0 stage.1 unit.1 n stage.2 unit.2 unit.3

  -- ---- each entry of a counted table has its number in a counted slot

  slot_has : (k place : ℕ) (stage : Stage) (slot : SlotUnit) (n : ℕ) → IsPart c slot.node k place stage slot → slot.counted ≡ true → Contains (map (λ (x : CellNumber). x.number) slot.numbers) n
      → Contains (chip_numbers c) n
  slot_has k place stage slot n part counted there =
      let u = then_some as_slot (slice_get stage.units place) slot part.slot_is in
      let unit_is : slice_get stage.units place ≡ Some (Slot slot) = u.1 ∙ ap Some (slot_is_unit u.0 slot u.2) in
      let own : Contains (unit_numbers (Slot slot)) n = subst (λ b. Contains (cond b (map (λ (x : CellNumber). x.number) slot.numbers) []) n) (sym counted) there in
      Contains-flat_map (λ (x : Stage). flat_map unit_numbers x.units) c.stages stage n (Contains-item c.stages k stage part.stage_is)
      (Contains-flat_map unit_numbers stage.units (Slot slot) n (Contains-item stage.units place (Slot slot) unit_is) own)

  entry_has : (k place cell : ℕ) (stage : Stage) (slot : SlotUnit) (e : Entry) → IsPart c slot.node k place stage slot → slot.counted ≡ true → cell < cells_in slot.memory
      → is_seen (own_content c k place cell).head ≡ true → own_number c k place cell ≡ e.number → Contains (chip_numbers c) e.number
  entry_has k place cell stage slot e part counted lt seen number =
      let known = slot_known k place stage slot part in
      let listed = known.listed.others cell lt (sym (ap (λ (y : Content). is_seen y.head) (own_content_is slot.node k place cell stage slot part)) ∙ seen) in
      let x = Contains-unmap (λ (y : CellNumber). y.cell) slot.numbers cell listed in
      let same : x.0.number ≡ e.number =
      sym (listed_number slot.numbers 0 x.0 known.listed.rises x.1) ∙ ap (number_of_cell slot.numbers) x.2
      ∙ sym (own_number_is slot.node k place cell stage slot part) ∙ number in
      slot_has k place stage slot e.number part counted (subst (Contains (map (λ (y : CellNumber). y.number) slot.numbers)) same (Contains-map (λ (y : CellNumber). y.number) slot.numbers x.0 x.1))

  -- each slot of a counted table is counted
  slot_counted : (n k place : ℕ) (stage : Stage) (slot : SlotUnit) (t : Table) → IsPart c n k place stage slot → table_at p n ≡ Some t → t.counted ≡ true → slot.counted ≡ true
  slot_counted n k place stage slot t part at counted =
      let known = slot_known k place stage slot (own_part n k place stage slot part) in
      let same : known.own.table ≡ t = same_Some known.own.table t (sym known.own.table_is ∙ ap (table_at p) part.node_is ∙ at) in
      known.own.carried.counted ∙ ap (λ (x : Table). x.counted) same ∙ counted

  node_has : (n : ℕ) (node : Node) (t : Table) (e : Entry) → slice_get p.nodes n ≡ Some node → applied p node.what ≡ Some t → t.counted ≡ true → Contains (entries_at lists n) e
      → Contains (chip_numbers c) e.number
  node_has n node t e at table counted there =
      let at_table : table_at p n ≡ Some t = ap (option_and_then (λ (x : Node). applied p x.what)) at ∙ table in
      let cells = carries.cells.tables n t (entries_at lists n) at_table (list_at p lists n node entries at).0 in
      let spot = All-contains (λ (x : Entry). (at : Spot) × IsSpotOf c n at × IsTold m.cells x at) (entries_at lists n) e cells.each there in
      at_spot spot.0 spot.2 (part_of_spot c n spot.0 spot.1) spot.1 cells at_table
    where
      at_spot : (at : Spot) → IsTold m.cells e at → (stage : Stage) × (slot : SlotUnit) × IsPart c n at.stage at.place stage slot × (at.cell < cells_in slot.memory) → IsSpotOf c n at
          → TableCellsCarried p c (own_view c) m.cells n t (map (width_of p) t.key) (entries_at lists n) → table_at p n ≡ Some t → Contains (chip_numbers c) e.number
      at_spot at is_told (stage, slot, part, lt) is_spot cells at_table =
          let holds = cells.holds e at stage there is_spot is_told part.stage_is in
          entry_has at.stage at.place at.cell stage slot e (own_part n at.stage at.place stage slot part) (slot_counted n at.stage at.place stage slot t part at_table counted) lt holds.seen holds.number_is

  pub all_have : (n : ℕ) → Contains (counted_numbers p p.nodes lists) n → Contains (chip_numbers c) n
  all_have n there =
      let r = from_counted p p.nodes lists n there in
      let list = list_at p lists r.n r.node entries r.node_is in
      let same : r.es ≡ entries_at lists r.n = same_Some r.es (entries_at lists r.n) (sym r.list_is ∙ list.0) in
      let e = Contains-unmap (λ (x : Entry). x.number) r.es n r.there in
      let t = counted_table p r.node.what r.counted in
      subst (Contains (chip_numbers c)) e.2 (node_has r.n r.node t.0 e.0 r.node_is t.1 t.2 (subst (λ es. Contains es e.0) same e.1))

  -- So both count the same numbers.
  pub same_numbers : in_order (chip_numbers c) ≡ in_order (counted_numbers p p.nodes lists)
  same_numbers = same_order (chip_numbers c) (counted_numbers p p.nodes lists) all_told all_have
