-- When a stage of a configuration is that of a plan.
use Rattle.std.specs.Prelude.{◌≡◌, ◌≢◌, ◌<◌, ◌^◌, ℕ, ⊤, List, true, Option, Some, None, All, length, map, option_and_then, slice_get, slice_index}
use Rattle.std.specs.List.{AllZip}
use Rattle.rmt_build.specs.Types.{Program, Table, Stage, SramRow, TcamRow, Unit, UnitGuard, SlotUnit, CellNumber}
use Rattle.rmt_ast.specs.declared.entry.Entry.{Entry}
use Rattle.rmt_ast.specs.State.{width_of}
use Rattle.rmt_config.specs.declared.config.Unit.TheVariants.{Gate, Slot}
use Rattle.rmt_config.specs.CellForm.{MemoryEnds, is_clear}
use Rattle.rmt_config.specs.Cells.{cells_in, content_of, visible_bits}
use Rattle.rmt_config.specs.StageForm.{rows_are_formed}
use Rattle.rmt_pack.specs.Placements.{data_bits}
use Rattle.rmt_config.specs.Instructions.{first_code}
use Rattle.rmt_refine.specs.Cells.{HoldsEntry}
use Rattle.rmt_refine.specs.Units.{UnitCarried, nodes_in, table_at}
use Rattle.rmt_refine.specs.View.{as_slot, slot_of}
use Rattle.rmt_filling.specs.declared.plan.Plan.{Plan}
use Rattle.rmt_filling.specs.declared.stands.Stand.{Stand}
use Rattle.rmt_filling.specs.Memories.{memory_for}
use Rattle.rmt_filling.specs.Numbers.{number_at}
use Rattle.rmt_build.specs.Plans.{need_in, stands_of_part, taken_upto}
use Rattle.rmt_build.specs.UnitCode.{DoUnits}

-- The cell of a part in which an entry stands holds it, seen under either version; the part's first instruction has this number.
pub record HoldsStand (p : Program) (t : Table) (es : List Entry) (first : ℕ) (stage : Stage) (slot : SlotUnit) (s : Stand) : Type 0 where
  pub entry : Entry
  pub is : slice_get es s.entry ≡ Some entry
  pub holds : HoldsEntry p t (map (width_of p) t.key) first entry entry.number (content_of stage slot s.cell)
  pub visible : visible_bits (content_of stage slot s.cell).head ≡ 3

-- The slot of a part of a table with these entries in stage k: its memory takes the next blocks of the stage, and its numbers are those of the entries
-- that stand there.
pub record HasPart (p : Program) (plan : Plan) (k : ℕ) (slot : SlotUnit) (t : Table) (es : List Entry) : Type 0 where
  pub memory : slot.memory ≡ memory_for t.kind (need_in p plan.placement.parts t slot.node k) (taken_upto p plan.placement.parts k slot.node)
  pub held : slot.held ≡ data_bits p t
  pub numbers : slot.numbers ≡ map (number_at es) (stands_of_part p plan t slot.node k)

-- so do those of some units of stage k
abbrev pub HaveParts : Program → List (List Entry) → Plan → ℕ → List Unit → Type 0
HaveParts p lists plan k units =
    (place : ℕ) (slot : SlotUnit) (t : Table) (es : List Entry) → option_and_then as_slot (slice_get units place) ≡ Some slot → table_at p slot.node ≡ Some t
    → slice_get lists slot.node ≡ Some es → HasPart p plan k slot t es

-- A slot of stage k is the part of a table with these entries: its memory takes the next blocks of the stage, its numbers are those of the entries
-- that stand there, each cell in which an entry stands holds it, and no bit is set in any other cell or beside the cells.
pub record IsBuiltSlot (p : Program) (plan : Plan) (k place : ℕ) (stage : Stage) (slot : SlotUnit) (t : Table) (es : List Entry) : Type 0 where
  pub memory : slot.memory ≡ memory_for t.kind (need_in p plan.placement.parts t slot.node k) (taken_upto p plan.placement.parts k slot.node)
  pub held : slot.held ≡ data_bits p t
  pub numbers : slot.numbers ≡ map (number_at es) (stands_of_part p plan t slot.node k)
  pub holds : All (HoldsStand p t es (first_code stage place) stage slot) (stands_of_part p plan t slot.node k)
  pub empty : (cell : ℕ) → cell < cells_in slot.memory → All (λ (s : Stand). s.cell ≢ cell) (stands_of_part p plan t slot.node k)
      → is_clear slot.memory (content_of stage slot cell) ≡ true
  pub ends : MemoryEnds stage slot slot.memory

-- a unit's numbers lie in the ranges of a configuration: a mask has 16 bits, the number of an entry 32
abbrev pub SmallGuard : Option UnitGuard → Type 0
SmallGuard None = ⊤
SmallGuard (Some g) = g.mask < 65536

abbrev pub SmallUnit : Unit → Type 0
SmallUnit (Gate g) = SmallGuard g.guard
SmallUnit (Slot s) = SmallGuard s.guard × All (λ (x : CellNumber). x.number < 2 ^ 32) s.numbers

-- stage k of a plan for a program with these entries
pub record IsBuiltStage (p : Program) (lists : List (List Entry)) (plan : Plan) (k : ℕ) (stage : Stage) : Type 0 where
  pub start : stage.start ≡ slice_index plan.starts k
  pub units : AllZip (UnitCarried p plan.places plan.placement.parts k) (nodes_in p plan.placement.parts k) stage.units
  pub code : DoUnits p plan.places stage.units stage.code
  pub small : All SmallUnit stage.units
  pub slots : (place : ℕ) (slot : SlotUnit) (t : Table) (es : List Entry) → slot_of stage place ≡ Some slot → table_at p slot.node ≡ Some t
      → slice_get lists slot.node ≡ Some es → IsBuiltSlot p plan k place stage slot t es
  pub rows : rows_are_formed stage ≡ true
  pub rows_fit : All (λ (r : SramRow). (r.block < 106) × (r.row < 1024) × (r.bits < 2 ^ 112)) stage.srows × (length stage.srows < 2 ^ 32)
  pub trows_fit : All (λ (r : TcamRow). (r.block < 16) × (r.row < 2048) × (r.value < 2 ^ 40) × (r.mask < 2 ^ 40)) stage.trows × (length stage.trows < 2 ^ 32)
