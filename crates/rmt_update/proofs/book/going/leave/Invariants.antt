use Rattle.std.proofs.Common.{◌≡◌, Bool, length, take}
use Rattle.std.specs.List.{AllZip}
use Rattle.rmt_bits.specs.Members.{is_among}
use Rattle.rmt_update.specs.RowIndex.{IsIndex, never}
use Rattle.rmt_update.proofs.book.going.leave.Given as goal

-- the entries of the numbers so far have left
abbrev pub invariant-loop-number : goal.invariant-loop-number
invariant-loop-number l = record {
  spots : l.index.spots ≡ l.fn.index.spots;
  recent : l.index.recent ≡ l.fn.index.recent;
  count : length l.index.tables.items ≡ length l.fn.index.tables.items;
  tables : (odd : Bool) → AllZip (IsIndex odd never) l.tables l.fn.index.tables.items → AllZip (IsIndex odd (is_among (take l.number-index l.gone))) l.tables l.index.tables.items;
}
