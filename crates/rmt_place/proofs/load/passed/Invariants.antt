use Rattle.std.proofs.Common.{◌≡◌, ◌+◌, drop}
use Rattle.rmt_place.specs.declared.load.TheConstants.{MOST}
use Rattle.rmt_place.specs.Steps.{passed_of}
use Rattle.rmt_place.proofs.load.passed.Given as goal

abbrev pub invariant-loop-at : goal.invariant-loop-at
invariant-loop-at l = passed_of l.stage (l.at + 6) (drop l.at MOST) (drop l.at l.have) (drop l.at l.more) ≡ passed_of l.stage 6 MOST l.have l.more
