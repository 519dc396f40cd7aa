use Rattle.std.proofs.Common.{◌≡◌, ◌≤◌, ◌^◌, length, take}
use Rattle.rmt_update.specs.RowIndex.{AreRows, never, rows_of}
use Rattle.rmt_update.proofs.book.index.order_of.Given as goal

-- the rows of the parts so far
abbrev pub invariant-loop-part : goal.invariant-loop-part
invariant-loop-part l = record {
  count : length (rows_of (take l.part-index l.table.parts.items)) ≡ l.first;
  few : l.first ≤ 2 ^ 31;
  rows : AreRows l.table.name.kind l.odd never (rows_of (take l.part-index l.table.parts.items)) l.order;
}
