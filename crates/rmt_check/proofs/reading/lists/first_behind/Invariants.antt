use Rattle.std.proofs.Common.{◌≡◌, drop}
use Rattle.rmt_check.specs.Reading.{first, seen_behind}
use Rattle.rmt_check.proofs.reading.lists.first_behind.Given as goal

abbrev pub invariant-loop-at : goal.invariant-loop-at
invariant-loop-at g l = first (seen_behind l.wanted g.T.Part.seen) (drop l.at l.trees) ≡ first (seen_behind l.wanted g.T.Part.seen) l.trees
