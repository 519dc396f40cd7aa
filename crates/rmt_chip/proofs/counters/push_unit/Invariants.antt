use Rattle.std.proofs.Common.{◌≡◌, ◌++◌, map, take}
use Rattle.rmt_chip.specs.Types.{CellNumber}
use Rattle.rmt_chip.proofs.counters.push_unit.Given as goal

abbrev pub invariant-loop-cell : goal.invariant-loop-cell
invariant-loop-cell l = l.numbers.items ≡ l.initial.numbers.items ++ map (λ (n : CellNumber). n.number) (take l.cell-index l.cell-items)
