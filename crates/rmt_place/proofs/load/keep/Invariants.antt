use Rattle.std.proofs.Common.{◌≡◌, drop}
use Rattle.rmt_place.specs.declared.load.TheConstants.{MOST}
use Rattle.rmt_place.specs.Steps.{are_kept}
use Rattle.rmt_place.proofs.load.keep.Given as goal

abbrev pub invariant-loop-at : goal.invariant-loop-at
invariant-loop-at l = are_kept (drop l.at MOST) (drop l.at l.sums) ≡ are_kept MOST l.sums
