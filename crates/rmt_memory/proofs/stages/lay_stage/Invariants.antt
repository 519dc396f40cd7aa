use Rattle.std.proofs.Common.{◌≡◌, ◌<◌, ℕ, length, get_or, Some}
use Rattle.std.specs.Prelude.{slice_get}
use Rattle.rmt_memory.specs.Types.{Config, Unit}
use Rattle.rmt_config.specs.RunCells.{own_cells}
use Rattle.rmt_memory.specs.declared.memory.SlotMemory.{SlotMemory}
use Rattle.rmt_memory.specs.Memory.{MemoryFits, UnitHeld}
use Rattle.rmt_memory.proofs.stages.lay_stage.Given as goal

abbrev pub invariant-loop-unit : goal.invariant-loop-unit
invariant-loop-unit l = record {
  all : length l.memories.items ≡ l.unit-index;
  fit : (i : ℕ) (u : Unit) (d : SlotMemory) → i < l.unit-index → MemoryFits (get_or l.stage.units i u) (get_or l.memories.items i d);
  held : (i : ℕ) (u : Unit) (d : SlotMemory) → i < l.unit-index → (c : Config) (k : ℕ) → slice_get c.stages k ≡ Some l.stage → UnitHeld (own_cells c) k i (get_or l.stage.units i u) (get_or l.memories.items i d);
}
