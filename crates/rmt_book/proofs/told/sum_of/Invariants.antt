use Rattle.std.proofs.Common.{◌≡◌, ◌*◌, ◌≤◌, sum, take}
use Rattle.rmt_book.proofs.told.sum_of.Given as goal

abbrev pub invariant-loop-width : goal.invariant-loop-width
invariant-loop-width l = record {
  few : l.total ≤ 256 * l.width-index;
  so_far : l.total ≡ sum (take l.width-index l.widths);
}
