use Rattle.std.proofs.Common.{take}
use Rattle.std.specs.List.{AllZip}
use Rattle.rmt_update.specs.RowIndex.{IsIndex, never}
use Rattle.rmt_update.proofs.book.book_index.indexes_of.Given as goal

-- the tables so far
abbrev pub invariant-loop-table : goal.invariant-loop-table
invariant-loop-table l = AllZip (IsIndex l.odd never) (take l.table-index l.tables) l.indexes.items
