use Rattle.std.proofs.Common.{◌≡◌, ◌++◌, drop}
use Rattle.rmt_check.specs.Reading.{each, param_at}
use Rattle.rmt_check.proofs.reading.actions.params.Given as goal

abbrev pub invariant-loop-at : goal.invariant-loop-at
invariant-loop-at l = l.params ++ each param_at (drop l.at l.trees) ≡ each param_at l.trees
