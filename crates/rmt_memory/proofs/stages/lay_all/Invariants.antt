use Rattle.std.proofs.Common.{◌≡◌, ◌<◌, ℕ, length, Some, Vec, Global}
use Rattle.std.specs.Prelude.{slice_get}
use Rattle.rmt_memory.specs.Types.{Config, Stage}
use Rattle.rmt_config.specs.RunCells.{own_cells}
use Rattle.rmt_memory.specs.declared.memory.SlotMemory.{SlotMemory}
use Rattle.rmt_memory.specs.Memory.{MemoriesFit, StageHeld}
use Rattle.rmt_memory.proofs.stages.lay_all.Given as goal

abbrev pub invariant-loop-stage : goal.invariant-loop-stage
invariant-loop-stage l = record {
  all : length l.memories.items ≡ l.stage-index;
  fit : (k : ℕ) (s : Stage) (m : Vec SlotMemory Global) → k < l.stage-index → slice_get l.stages k ≡ Some s → slice_get l.memories.items k ≡ Some m → MemoriesFit s m.items;
  held : (k : ℕ) (s : Stage) (m : Vec SlotMemory Global) → k < l.stage-index → slice_get l.stages k ≡ Some s → slice_get l.memories.items k ≡ Some m
      → (c : Config) (j : ℕ) → slice_get c.stages j ≡ Some s → StageHeld (own_cells c) j s m.items;
}
