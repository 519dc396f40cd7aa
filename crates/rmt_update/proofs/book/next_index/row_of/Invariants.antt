use Rattle.std.proofs.Common.{◌≡◌, ◌+◌}
use Rattle.rmt_update.specs.RowIndex.{rows_before}
use Rattle.rmt_update.proofs.book.next_index.row_of.Given as goal

-- the rows of the parts so far
abbrev pub invariant-loop-at : goal.invariant-loop-at
invariant-loop-at l = l.row ≡ rows_before l.parts l.at + l.fn.spot.cell
