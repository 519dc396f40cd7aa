use Rattle.std.proofs.Common.{◌≡◌, ◌++◌, drop}
use Rattle.rmt_check.specs.Reading.{words}
use Rattle.rmt_check.proofs.reading.fields.words.Given as goal

abbrev pub invariant-loop-at : goal.invariant-loop-at
invariant-loop-at l = l.found ++ words (drop l.at l.trees) ≡ words l.trees
