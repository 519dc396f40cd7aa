use Rattle.std.proofs.Common.{take}
use Rattle.std.specs.Prelude.{All}
use Rattle.rmt_update.specs.Come.{AreOrdered}
use Rattle.rmt_update.proofs.book.placing.all_ordered.Given as goal

-- the tables so far
abbrev pub invariant-loop-table : goal.invariant-loop-table
invariant-loop-table l = All AreOrdered (take l.table-index l.tables)
