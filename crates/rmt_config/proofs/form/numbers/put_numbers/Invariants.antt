use Rattle.std.proofs.Common.{◌≡◌, ◌++◌, take, map}
use Rattle.rmt_config.specs.Types.{CellNumber}
use Rattle.rmt_config.proofs.form.numbers.put_numbers.Given as goal

abbrev pub invariant-loop-cell : goal.invariant-loop-cell
invariant-loop-cell l = l.numbers.items ≡ l.fn.numbers.items ++ map (λ (n : CellNumber). n.number) (take l.cell-index l.cells)
