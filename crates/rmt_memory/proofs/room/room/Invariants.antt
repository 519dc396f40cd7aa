use Rattle.std.proofs.Common.{◌≡◌, ◌<◌, ℕ, length, get_or}
use Rattle.rmt_memory.specs.Types.{Unit}
use Rattle.rmt_memory.specs.declared.looked.Looked.{Looked}
use Rattle.rmt_memory.specs.Looked.{HasRoom}
use Rattle.rmt_memory.proofs.room.room.Given as goal

abbrev pub invariant-loop-unit : goal.invariant-loop-unit
invariant-loop-unit l = record {
  all : length l.looked.items ≡ l.unit-index;
  each : (i : ℕ) (u : Unit) (d : Looked) → i < l.unit-index → HasRoom (get_or l.stage.units i u) (get_or l.looked.items i d);
}
