use Rattle.std.proofs.Common.{◌≡◌, ◌*◌, ◌^◌, ◌≤◌, take}
use Rattle.rmt_cuckoo.specs.Loading.{cells_of}
use Rattle.rmt_update.proofs.book.loading.is_small.Given as goal

-- the cells of the parts so far
abbrev pub invariant-loop-part : goal.invariant-loop-part
invariant-loop-part l = record {
  cells : l.cells ≡ cells_of (take l.part-index l.layout);
  few : l.cells ≤ l.part-index * 2 ^ 32;
}
