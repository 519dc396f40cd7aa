-- The memories of a stage, one for each unit; that of a gate, and of a slot without memory, is not looked at.
use Rattle.std.specs.Prelude.{◌≡◌, ℕ, ◌<◌, true, List, length, slice_index_or}
use Rattle.rmt_memory.specs.Types.{Stage, Unit, SlotUnit}
use Rattle.rmt_config.specs.Life.{has_memory}
use Rattle.rmt_config.specs.RunCells.{RunCells}
use Rattle.rmt_config.specs.declared.config.Unit.TheVariants.{Slot}
use Rattle.rmt_memory.specs.declared.memory.SlotMemory.{SlotMemory}
use Rattle.rmt_memory.specs.Memories.{FitsSlot, HoldsSlot}

-- a memory holds the cells of the slot at a place of stage k; their version and seed are nothing to it
abbrev pub HoldsCells : RunCells → ℕ → ℕ → SlotUnit → SlotMemory → Type 0
HoldsCells cells k place slot memory = HoldsSlot (cells.content k place) (cells.number k place) slot memory

-- that of a slot with memory fits it
abbrev pub MemoryFits : Unit → SlotMemory → Type 0
MemoryFits unit memory = (s : SlotUnit) → unit ≡ Slot s → has_memory s.memory ≡ true → FitsSlot s memory

-- each of a stage fits
pub record MemoriesFit (stage : Stage) (memories : List SlotMemory) : Type 0 where
  pub all_units : length memories ≡ length stage.units
  pub each : (i : ℕ) (u : Unit) (d : SlotMemory) → i < length stage.units → MemoryFits (slice_index_or stage.units i u) (slice_index_or memories i d)

-- that of a slot with memory holds its cells
abbrev pub UnitHeld : RunCells → ℕ → ℕ → Unit → SlotMemory → Type 0
UnitHeld cells k place unit memory = (s : SlotUnit) → unit ≡ Slot s → has_memory s.memory ≡ true → HoldsCells cells k place s memory

-- each of stage k holds its cells
abbrev pub StageHeld : RunCells → ℕ → Stage → List SlotMemory → Type 0
StageHeld cells k stage memories =
    (i : ℕ) (u : Unit) (d : SlotMemory) → i < length stage.units → UnitHeld cells k i (slice_index_or stage.units i u) (slice_index_or memories i d)
