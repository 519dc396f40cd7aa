use Rattle.std.proofs.Common.{◌≡◌, ℕ, Some, vec_len}
use Rattle.std.specs.Prelude.{slice_get}
use Rattle.rmt_chip.specs.Types.{Stage}
use Rattle.rmt_chip.specs.declared.pending.Pending.{Pending}
use Rattle.rmt_chip.specs.Pending.{HasRoomFor}
use Rattle.rmt_chip.proofs.open.nothing_pending.Given as goal

abbrev pub invariant-loop-stage : goal.invariant-loop-stage
invariant-loop-stage l = record {
  count : vec_len l.pending ≡ l.stage-index;
  each : (k : ℕ) (stage : Stage) (p : Pending) → slice_get l.stages k ≡ Some stage → slice_get l.pending.items k ≡ Some p → HasRoomFor stage p;
}
