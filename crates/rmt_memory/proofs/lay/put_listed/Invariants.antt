use Rattle.rmt_memory.specs.Laying.{CellsPut}
use Rattle.rmt_memory.proofs.lay.put_listed.Given as goal

abbrev pub invariant-loop-at : goal.invariant-loop-at
invariant-loop-at l = CellsPut l.tail l.numbers l.heads l.keys l.held l.at l.fn.cells l.cells
