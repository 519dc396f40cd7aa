use Rattle.std.proofs.Common.{take}
use Rattle.std.specs.Prelude.{All}
use Rattle.rmt_verify.specs.StageCode.{StageCoded}
use Rattle.rmt_verify.proofs.instructions.all_code_holds.Given as goal

-- the stages so far
abbrev pub invariant-loop-stage : goal.invariant-loop-stage
invariant-loop-stage l = All (StageCoded l.coding.program.now l.coding.places.now) (take l.stage-index l.stages)
