use Rattle.std.proofs.Common.{◌≡◌, take}
use Rattle.rmt_bounds.specs.Bounds.{greatest}
use Rattle.rmt_bounds.proofs.best.greatest.Given as goal

abbrev pub invariant-loop-number : goal.invariant-loop-number
invariant-loop-number l = l.most ≡ greatest (take l.number-index l.numbers)
