use Rattle.std.proofs.Common.{◌≡◌, take}
use Rattle.rmt_check.specs.Meaning.{all_outcomes}
use Rattle.rmt_check.proofs.building.outcomes.all_outcomes.Given as goal

abbrev pub invariant-loop-arm : goal.invariant-loop-arm
invariant-loop-arm l = l.outcomes ≡ all_outcomes l.list (take l.arm-index l.arms)
