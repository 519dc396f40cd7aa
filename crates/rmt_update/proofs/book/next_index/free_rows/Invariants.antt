use Rattle.std.proofs.Common.{take}
use Rattle.rmt_update.specs.NextIndex.{AreAllFreed}
use Rattle.rmt_update.proofs.book.next_index.free_rows.Given as goal

-- the rows so far
abbrev pub invariant-loop-spot : goal.invariant-loop-spot
invariant-loop-spot l = AreAllFreed l.tables (take l.spot-index l.left) l.fn.indexes.items l.indexes.items
