use Rattle.std.proofs.Common.{◌≡◌, drop}
use Rattle.rmt_config.specs.Limits.{first_hit, stage_hit}
use Rattle.rmt_config.specs.LimitSteps.{hit_of}
use Rattle.rmt_config.proofs.limits.stage.over_in_any.Given as goal

abbrev pub invariant-loop-limit : goal.invariant-loop-limit
invariant-loop-limit l =
    let first = first_hit (λ limit. stage_hit (hit_of limit) 0 l.stages) in
    first (drop l.limit-index l.limits) ≡ first l.limits
