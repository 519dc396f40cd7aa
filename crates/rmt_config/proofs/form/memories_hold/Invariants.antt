use Rattle.std.proofs.Common.{drop}
use Rattle.std.specs.Prelude.{◌↔◌, All}
use Rattle.rmt_config.specs.CellForm.{StageHolds}
use Rattle.rmt_config.proofs.form.memories_hold.Given as goal

-- the stages so far hold what they may
abbrev pub invariant-loop-stage : goal.invariant-loop-stage
invariant-loop-stage l = record { so_far : All (StageHolds l.visible) l.stages ↔ All (StageHolds l.visible) (drop l.stage-index l.stages) }
