use Rattle.std.proofs.Common.{◌≡◌, take}
use Rattle.std.specs.List.{sum_by}
use Rattle.rmt_config.specs.Limits.{told}
use Rattle.rmt_config.specs.LimitSteps.{taken_by}
use Rattle.rmt_config.proofs.limits.total.total.Given as goal

abbrev pub invariant-loop-unit : goal.invariant-loop-unit
invariant-loop-unit l = l.sum ≡ told (sum_by (taken_by l.resource) (take l.unit-index l.units))
