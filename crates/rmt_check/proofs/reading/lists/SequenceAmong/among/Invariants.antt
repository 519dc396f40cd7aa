use Rattle.std.proofs.Common.{◌≡◌, ◌++◌, drop}
use Rattle.rmt_check.specs.Reading.{each}
use Rattle.rmt_check.proofs.reading.lists.SequenceAmong.among.Given as goal

abbrev pub invariant-loop-at : goal.invariant-loop-at
invariant-loop-at g l = l.parts ++ each g.T.Part.seen (drop l.at l.trees) ≡ each g.T.Part.seen l.trees
