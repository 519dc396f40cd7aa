use Rattle.std.proofs.Common.{◌≡◌, ◌++◌, List, Option, length, map}
use Rattle.std.specs.List.{range_with_len}
use Rattle.std.specs.BTreeMap.{get}
use Rattle.std.specs.Ordering.{nat_cmp}
use Rattle.rmt_book.specs.declared.kept.Kept.{Kept}
use Rattle.rmt_update.specs.RowIndex.{AreRows, HaveOwnRows, never, part_rows}
use Rattle.rmt_update.proofs.book.index.put_rows.Given as goal

-- the rows so far
abbrev pub invariant-loop-cell : goal.invariant-loop-cell
invariant-loop-cell l =
    (xs : List (Option Kept)) → length xs ≡ l.first → HaveOwnRows (xs ++ part_rows l.part) → AreRows l.kind l.odd never xs l.fn.order
    → AreRows l.kind l.odd never (xs ++ map (get nat_cmp l.part.cells) (range_with_len 0 l.cell-counter)) l.order
