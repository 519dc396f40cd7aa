use Rattle.std.proofs.Common.{◌≡◌, take}
use Rattle.rmt_filling.specs.Sorting.{rows_from}
use Rattle.rmt_filling.proofs.stands.in_rows.Given as goal

abbrev pub invariant-loop-at : goal.invariant-loop-at
invariant-loop-at l = l.stands ≡ rows_from 0 (take l.at l.sorted)
