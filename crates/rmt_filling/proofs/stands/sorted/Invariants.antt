use Rattle.std.proofs.Common.{◌≡◌, take}
use Rattle.rmt_filling.specs.Sorting.{placed_from}
use Rattle.rmt_filling.proofs.stands.sorted.Given as goal

abbrev pub invariant-loop-at : goal.invariant-loop-at
invariant-loop-at l = l.stands.items ≡ placed_from 0 (take l.at l.numbers)
