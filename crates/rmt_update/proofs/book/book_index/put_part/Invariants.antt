use Rattle.std.proofs.Common.{◌++◌, List}
use Rattle.rmt_book.specs.declared.kept.Kept.{Kept}
use Rattle.rmt_book.specs.declared.spot.BookSpot.{BookSpot}
use Rattle.rmt_update.specs.IndexCells.{HasGathered}
use Rattle.rmt_update.proofs.IndexCells.{cells_read}
use Rattle.rmt_update.proofs.book.book_index.put_part.Given as goal

-- the cells so far
abbrev pub invariant-loop-cell : goal.invariant-loop-cell
invariant-loop-cell l = (cells : List (BookSpot × Kept)) → HasGathered cells l.fn.gathered → HasGathered (cells ++ cells_read l.table l.part l.yielded) l.gathered
