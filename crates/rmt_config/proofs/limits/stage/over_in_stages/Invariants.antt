use Rattle.std.proofs.Common.{◌≡◌, drop}
use Rattle.rmt_config.specs.Limits.{stage_hit}
use Rattle.rmt_config.specs.LimitSteps.{hit_of}
use Rattle.rmt_config.proofs.limits.stage.over_in_stages.Given as goal

abbrev pub invariant-loop-stage : goal.invariant-loop-stage
invariant-loop-stage l = record {
  place : l.number ≡ l.stage-index;
  so_far : stage_hit (hit_of l.limit) l.number (drop l.stage-index l.stages) ≡ stage_hit (hit_of l.limit) 0 l.stages;
}
