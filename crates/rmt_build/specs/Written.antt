-- What the memories of a stage hold, once the entries of its units are written.
use Rattle.std.specs.Prelude.{◌≡◌, ◌<◌, ℕ, List, Some, ⊤, Contains, length, slice_get, sum_by, take}
use Rattle.rmt_build.specs.Types.{Program, Table, Unit, SlotUnit}
use Rattle.rmt_ast.specs.declared.entry.Entry.{Entry}
use Rattle.rmt_config.specs.declared.config.Unit.TheVariants.{Gate, Slot}
use Rattle.rmt_config.specs.Cells.{cells_in}
use Rattle.rmt_config.specs.Instructions.{unit_instructions}
use Rattle.rmt_config.specs.StageForm.{sram_blocks, tcam_blocks}
use Rattle.rmt_pack.specs.Placements.{data_bits, key_bits}
use Rattle.rmt_refine.specs.Units.{table_at}
use Rattle.rmt_filling.specs.declared.plan.Plan.{Plan}
use Rattle.rmt_filling.specs.Holding.{Held}
use Rattle.rmt_build.specs.HeldParts.{PartHolds}
use Rattle.rmt_build.specs.Plans.{stands_of_part}
use Rattle.rmt_filling.specs.Rooms.{AreOf, HasBlocks, StandApart}

-- the entries of a slot of stage k can be written
pub record SlotFits (p : Program) (lists : List (List Entry)) (plan : Plan) (k : ℕ) (slot : SlotUnit) : Type 0 where
  pub table : Table
  pub entries : List Entry
  pub is_table : table_at p slot.node ≡ Some table
  pub is_entries : slice_get lists slot.node ≡ Some entries
  pub of_table : AreOf p table entries
  pub actions : slot.actions ≡ length table.actions
  pub blocks : HasBlocks p table slot.memory
  pub stands : StandApart (length entries) (cells_in slot.memory) (stands_of_part p plan table slot.node k)

abbrev pub UnitFits : Program → List (List Entry) → Plan → ℕ → Unit → Type 0
UnitFits p lists plan k (Gate g) = ⊤
UnitFits p lists plan k (Slot s) = SlotFits p lists plan k s

-- two units have no block in common
pub record UnitsApart (a b : Unit) : Type 0 where
  pub sram : (block : ℕ) → Contains (sram_blocks a) block → Contains (sram_blocks b) block → ⊥
  pub tcam : (block : ℕ) → Contains (tcam_blocks a) block → Contains (tcam_blocks b) block → ⊥

-- the entries of a slot of stage k are written; its first instruction has this number
pub record SlotWritten (p : Program) (lists : List (List Entry)) (plan : Plan) (k first : ℕ) (h : Held) (slot : SlotUnit) : Type 0 where
  pub table : Table
  pub entries : List Entry
  pub is_table : table_at p slot.node ≡ Some table
  pub is_entries : slice_get lists slot.node ≡ Some entries
  pub part : PartHolds p table entries (stands_of_part p plan table slot.node k) first (key_bits p table) (data_bits p table) h slot.memory

-- a block isn't one of the first so many units
abbrev pub IsOutside : (Unit → List ℕ) → List Unit → ℕ → ℕ → Type 0
IsOutside blocks units upto block = (place : ℕ) (u : Unit) → place < upto → slice_get units place ≡ Some u → Contains (blocks u) block → ⊥

-- the entries of the first so many units of stage k are written, and all else is 0
pub record UnitsWritten (p : Program) (lists : List (List Entry)) (plan : Plan) (k : ℕ) (units : List Unit) (upto : ℕ) (h : Held) : Type 0 where
  pub slots : (place : ℕ) (slot : SlotUnit) → place < upto → slice_get units place ≡ Some (Slot slot) → SlotWritten p lists plan k (sum_by unit_instructions (take place units)) h slot
  pub sram : (b r : ℕ) → IsOutside sram_blocks units upto b → h.sram b r ≡ 0
  pub values : (b r : ℕ) → IsOutside tcam_blocks units upto b → h.values b r ≡ 0
  pub masks : (b r : ℕ) → IsOutside tcam_blocks units upto b → h.masks b r ≡ 0
