use Rattle.std.proofs.Common.{◌++◌, List, take}
use Rattle.rmt_book.specs.declared.kept.Kept.{Kept}
use Rattle.rmt_book.specs.declared.spot.BookSpot.{BookSpot}
use Rattle.rmt_update.specs.IndexCells.{HasGathered, numbered, part_cells}
use Rattle.rmt_update.proofs.book.book_index.put_table.Given as goal

-- the cells of the parts so far
abbrev pub invariant-loop-part : goal.invariant-loop-part
invariant-loop-part l = (cells : List (BookSpot × Kept)) → HasGathered cells l.fn.gathered → HasGathered (cells ++ numbered (part_cells l.table) 0 (take l.part l.parts)) l.gathered
