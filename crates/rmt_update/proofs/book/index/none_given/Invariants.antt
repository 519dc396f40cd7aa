use Rattle.std.proofs.Common.{◌≡◌, ◌+◌, length}
use Rattle.std.specs.Prelude.{All}
use Rattle.rmt_update.specs.RowIndex.{IsNone}
use Rattle.rmt_update.proofs.book.index.none_given.Given as goal

-- the sets so far
abbrev pub invariant-loop-left : goal.invariant-loop-left
invariant-loop-left l = record {
  count : length l.given.items + l.left ≡ l.parts;
  none : All IsNone l.given.items;
}

abbrev pub decreases-loop-left : goal.decreases-loop-left
decreases-loop-left l = l.left
