use Rattle.std.proofs.Common.{◌≡◌, drop}
use Rattle.rmt_check.specs.Reading.{first}
use Rattle.rmt_check.proofs.reading.lists.OptionAmong.among.Given as goal

abbrev pub invariant-loop-at : goal.invariant-loop-at
invariant-loop-at g l = first g.T.Part.seen (drop l.at l.trees) ≡ first g.T.Part.seen l.trees
