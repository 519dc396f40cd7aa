use Rattle.std.proofs.Common.{◌≡◌, drop}
use Rattle.rmt_check.specs.Reading.{first}
use Rattle.rmt_check.proofs.reading.lists.first_choice.Given as goal

abbrev pub invariant-loop-at : goal.invariant-loop-at
invariant-loop-at g l = first g.T.Choice.chosen (drop l.at l.parts) ≡ first g.T.Choice.chosen l.parts
