use Rattle.std.proofs.Common.{take}
use Rattle.rmt_update.specs.IndexCells.{HasGathered, all_cells}
use Rattle.rmt_update.proofs.book.book_index.gathered_of.Given as goal

-- the cells of the tables so far
abbrev pub invariant-loop-at : goal.invariant-loop-at
invariant-loop-at l = HasGathered (all_cells (take l.at l.tables)) l.gathered
