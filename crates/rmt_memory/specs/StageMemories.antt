-- The memories of all stages.
use Rattle.std.specs.Prelude.{◌≡◌, ℕ, List, length, Some, slice_get, Vec}
use Rattle.rmt_memory.specs.Types.{Config, Stage, SlotUnit}
use Rattle.rmt_memory.specs.declared.memory.SlotMemory.{SlotMemory}
use Rattle.rmt_config.specs.declared.config.Unit.TheVariants.{Slot}
use Rattle.rmt_config.specs.RunCells.{RunCells}
use Rattle.rmt_memory.specs.Memories.{SlotFormed}
use Rattle.rmt_memory.specs.Memory.{MemoriesFit, StageHeld}
use Rattle.std.specs.declared.alloc.Global.{Global}

-- those of each stage fit it
pub record MemoriesOf (stages : List Stage) (memories : List (Vec SlotMemory Global)) : Type 0 where
  pub all_stages : length memories ≡ length stages
  pub each : (k : ℕ) (stage : Stage) (m : Vec SlotMemory Global) → slice_get stages k ≡ Some stage → slice_get memories k ≡ Some m → MemoriesFit stage m.items

-- and they hold these cells
abbrev pub MemoriesHold : Config → RunCells → List (Vec SlotMemory Global) → Type 0
MemoriesHold c cells memories =
    (k : ℕ) (stage : Stage) (m : Vec SlotMemory Global) → slice_get c.stages k ≡ Some stage → slice_get memories k ≡ Some m → StageHeld cells k stage m.items

-- every slot of a stage keeps the rules of form
abbrev pub SlotsFormed : Stage → Type 0
SlotsFormed stage = (i : ℕ) (s : SlotUnit) → slice_get stage.units i ≡ Some (Slot s) → SlotFormed stage s

abbrev pub AllSlotsFormed : List Stage → Type 0
AllSlotsFormed stages = (k : ℕ) (stage : Stage) → slice_get stages k ≡ Some stage → SlotsFormed stage
