-- In a configuration that is built by a plan, the cells in which the map tells that an entry stands are those in which it stands by the plan.
use Rattle.std.proofs.Common.{◌≡◌, ℕ, ◌+◌, ◌<◌, List, [], Option, Some, length, map, get_or, sym, ap, ◌∙◌, subst, inl, inr, arith}
use Rattle.std.specs.Prelude.{AllPairs, Contains, option_and_then, option_map, slice_get, unwrap_or}
use Rattle.std.proofs.lemmas.List.{length-map}
use Rattle.std.proofs.lemmas.Option.{get_or_from_slice_get, slice_get_within}
use Rattle.rmt_bits.proofs.ListLaws.{slice_get-alike, slice_get-item}
use Rattle.rmt_build.specs.Types.{Program, Table, Node, What, Config, Stage, SlotUnit, CellNumber}
use Rattle.rmt_ast.specs.declared.program.What.TheVariants as what
use Rattle.rmt_ast.specs.declared.entry.Entry.{Entry}
use Rattle.rmt_ast.specs.EntryLists.{AreEntries}
use Rattle.rmt_config.specs.declared.config.Unit.TheVariants.{Slot}
use Rattle.rmt_config.specs.Cells.{cells_in}
use Rattle.rmt_refine.specs.Units.{DoesAs, TableCarried, UnitsCarried, applied, table_at}
use Rattle.rmt_pack.proofs.PartLaws.{IsPart}
use Rattle.rmt_refine.proofs.PartLaws.{some_and, unit_of_part}
use Rattle.rmt_filling.specs.declared.plan.Plan.{Plan}
use Rattle.rmt_filling.specs.declared.stands.Stand.{Stand}
use Rattle.rmt_build.specs.BuiltStage.{IsBuiltSlot, IsBuiltStage}
use Rattle.rmt_filling.specs.Numbers.{number_at}
use Rattle.rmt_build.specs.Plans.{AreStands, need_in, stands_of_part, taken_upto}
use Rattle.rmt_filling.specs.Formats.{format_at}
use Rattle.rmt_filling.specs.EntryCells.{stands_within}
use Rattle.rmt_build.proofs.StandLaws.{entry_within, first_cell, part_cells, within_from, within_to}
use Rattle.rmt_bits.proofs.MemberLaws.{Contains-unmap, Contains-map, Contains-item}
use Rattle.rmt_build.proofs.MemoryLaws.{memory_cells}
use Rattle.rmt_refine.proofs.RankLaws.{compare}

-- ---- entries by rising number

pub rising_place : (es : List Entry) (i j : ℕ) (e f : Entry) → AllPairs (λ (a b : Entry). a.number < b.number) es → slice_get es i ≡ Some e → slice_get es j ≡ Some f → e.number ≡ f.number → i ≡ j
rising_place es i j e f rise at_i at_j same = elim (compare i j) [
  | inl lt ↦ absurd (let less = before i j e f lt at_i at_j in omega (arith, less, same))
  | inr (inl gt) ↦ absurd (let less = before j i f e gt at_j at_i in omega (arith, less, same))
  | inr (inr is) ↦ is
]
  where
    before : (a b : ℕ) (x y : Entry) → a < b → slice_get es a ≡ Some x → slice_get es b ≡ Some y → x.number < y.number
    before a b x y lt at_a at_b =
        let r = rise a b x lt (slice_get_within es b y at_b) in
        let x_is = get_or_from_slice_get es a x x at_a in
        let y_is = get_or_from_slice_get es b y x at_b in
        subst (λ (z : Entry). z.number < y.number) x_is (subst (λ (z : Entry). (get_or es a x).number < z.number) y_is r)

-- ---- what stands where

-- entry e of a table, whose entries stand so, stands in a cell of stage k
pub record StandsAt (p : Program) (plan : Plan) (n : ℕ) (t : Table) (es : List Entry) (own : List Stand) (e : Entry) (k cell : ℕ) : Type 0 where
  pub stand : Stand
  pub there : Contains own stand
  pub entry_is : slice_get es stand.entry ≡ Some e
  pub cell_is : stand.cell ≡ first_cell t.kind (format_at p n).per plan.placement.parts n k + cell
  pub within : cell < part_cells t.kind (format_at p n).per plan.placement.parts n k

-- a table of a program with its entries, and where they stand
pub record HasTable (p : Program) (lists : List (List Entry)) (plan : Plan) (n : ℕ) : Type 0 where
  pub table : Table
  pub entries : List Entry
  pub own : List Stand
  pub table_is : table_at p n ≡ Some table
  pub entries_are : slice_get lists n ≡ Some entries
  pub own_is : slice_get plan.stands n ≡ Some own

module _ (p : Program) (lists : List (List Entry)) (plan : Plan) (c : Config) (entries : AreEntries p lists)
    (units : UnitsCarried p plan.places plan.placement.parts plan.starts c) (stands : AreStands p lists plan.placement.parts plan.stands)
    (built : (k : ℕ) (stage : Stage) → slice_get c.stages k ≡ Some stage → IsBuiltStage p lists plan k stage) where
  module _ (n k place : ℕ) (stage : Stage) (slot : SlotUnit) (part : IsPart c n k place stage slot) where
    does_table : (w : What) → DoesAs p plan.places plan.placement.parts k n w (Slot slot) → (t : Table) × (applied p w ≡ Some t)
    does_table (what.Apply i) does = let r = some_and (slice_get p.tables i) (λ (t : Table). TableCarried plan.places plan.placement.parts n k t slot) does in (r.0, r.1)
    does_table (what.Gate field test) does = absurd does

    -- its table, with its entries
    pub table_of_part : HasTable p lists plan n
    table_of_part =
        let unit = unit_of_part p plan.places plan.placement.parts plan.starts c n k place stage slot units part in
        let node = some_and (slice_get p.nodes n) (λ (x : Node). DoesAs p plan.places plan.placement.parts k n x.what (Slot slot)) unit.1.does in
        let t = does_table node.0.what node.2 in
        let es = slice_get-alike p.nodes lists n node.0 (entries.for_each_node ∙ length-map p.nodes _) node.1 in
        let own = slice_get-alike lists plan.stands n es.0 stands.all_there es.1 in
        record {
          table = t.0;
          entries = es.0;
          own = own.0;
          table_is = ap (option_and_then (λ (x : Node). applied p x.what)) node.1 ∙ t.1;
          entries_are = es.1;
          own_is = own.1;
        }

    module _ (t : Table) (es : List Entry) (own : List Stand) (table_is : table_at p n ≡ Some t) (es_are : slice_get lists n ≡ Some es) (own_is : slice_get plan.stands n ≡ Some own) where
      pub slot_built : IsBuiltSlot p plan k place stage slot t es
      slot_built = (built k stage part.stage_is).slots place slot t es part.slot_is (ap (table_at p) part.node_is ∙ table_is) (ap (slice_get lists) part.node_is ∙ es_are)

      pub part_stands : stands_of_part p plan t slot.node k
          ≡ stands_within (first_cell t.kind (format_at p n).per plan.placement.parts n k) (part_cells t.kind (format_at p n).per plan.placement.parts n k) own
      part_stands =
          ap (λ m. stands_of_part p plan t m k) part.node_is
          ∙ ap (stands_within (first_cell t.kind (format_at p n).per plan.placement.parts n k) (part_cells t.kind (format_at p n).per plan.placement.parts n k))
          (get_or_from_slice_get plan.stands n own [] own_is)

      pub part_size : cells_in slot.memory ≡ part_cells t.kind (format_at p n).per plan.placement.parts n k
      part_size =
          ap cells_in slot_built.memory ∙ memory_cells t.kind (need_in p plan.placement.parts t slot.node k) (taken_upto p plan.placement.parts k slot.node)
          ∙ ap (λ m. part_cells t.kind (format_at p m).per plan.placement.parts m k) part.node_is

      -- a stand of the part
      pub stand_there : (y : Stand) → Contains (stands_of_part p plan t slot.node k) y → (e : Entry) → slice_get es y.entry ≡ Some e → StandsAt p plan n t es own e k y.cell
      stand_there y there e at =
          let r = within_from (first_cell t.kind (format_at p n).per plan.placement.parts n k) (part_cells t.kind (format_at p n).per plan.placement.parts n k) own y
          (subst (λ xs. Contains xs y) part_stands there) in
          record { stand = r.0; there = r.1; entry_is = ap (slice_get es) r.2 ∙ at; cell_is = r.3; within = r.4 }

      pub there_stands : (e : Entry) (cell : ℕ) → (s : StandsAt p plan n t es own e k cell) → Contains (stands_of_part p plan t slot.node k) (record { cell = cell; entry = s.stand.entry })
      there_stands e cell s =
          subst (λ xs. Contains xs (record { cell = cell; entry = s.stand.entry })) (sym part_stands)
          (within_to (first_cell t.kind (format_at p n).per plan.placement.parts n k) (part_cells t.kind (format_at p n).per plan.placement.parts n k) own s.stand cell s.there s.cell_is s.within)

      number_of : (y : Stand) (e : Entry) → slice_get es y.entry ≡ Some e → (number_at es y).number ≡ e.number
      number_of y e at = ap (λ (o : Option Entry). unwrap_or (option_map (λ (x : Entry). x.number) o) 0) at

      -- a number that the slot lists is that of an entry that stands there
      pub listed_stands : (x : CellNumber) → Contains slot.numbers x → (e : Entry) × Contains es e × (e.number ≡ x.number) × StandsAt p plan n t es own e k x.cell
      listed_stands x there =
          let y = Contains-unmap (number_at es) (stands_of_part p plan t slot.node k) x (subst (λ xs. Contains xs x) slot_built.numbers there) in
          let known = within_from (first_cell t.kind (format_at p n).per plan.placement.parts n k) (part_cells t.kind (format_at p n).per plan.placement.parts n k) own y.0
          (subst (λ xs. Contains xs y.0) part_stands y.1) in
          let below = entry_within (length es) own (stands.each n es own es_are own_is) known.0 known.1 in
          let e = slice_get-item es y.0.entry (omega (arith, below, known.2)) in (
            e.0,
            Contains-item es y.0.entry e.0 e.1,
            sym (number_of y.0 e.0 e.1) ∙ ap (λ (z : CellNumber). z.number) y.2,
            subst (StandsAt p plan n t es own e.0 k) (ap (λ (z : CellNumber). z.cell) y.2) (stand_there y.0 y.1 e.0 e.1),
          )

      -- and such an entry is listed
      pub stands_listed : (e : Entry) (cell : ℕ) → StandsAt p plan n t es own e k cell → Contains slot.numbers (record { cell = cell; number = e.number })
      stands_listed e cell s =
          let y : Stand = record { cell = cell; entry = s.stand.entry } in
          let own_number = number_of y e s.entry_is in
          subst (λ xs. Contains xs (record { cell = cell; number = e.number })) (sym slot_built.numbers)
          (subst (λ m. Contains (map (number_at es) (stands_of_part p plan t slot.node k)) (record { cell = cell; number = m })) own_number
          (Contains-map (number_at es) (stands_of_part p plan t slot.node k) y (there_stands e cell s)))
