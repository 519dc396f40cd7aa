use Rattle.std.proofs.Common.{◌≡◌, drop}
use Rattle.rmt_check.specs.Reading.{next_among}
use Rattle.rmt_check.proofs.reading.headers.next_among.Given as goal

abbrev pub invariant-loop-at : goal.invariant-loop-at
invariant-loop-at l = next_among (drop l.at l.trees) ≡ next_among l.trees
