use Rattle.std.proofs.Common.{ℕ, ◌<◌, get_or}
use Rattle.rmt_cuckoo.specs.Search.{Grows, IsSeen}
use Rattle.rmt_cuckoo.proofs.search.mark.Given as goal

-- the search grew by steps to the cells so far, which are seen
abbrev pub invariant-loop-cell : goal.invariant-loop-cell
invariant-loop-cell l = record {
  grows : Grows l.place l.row l.fn.steps.items l.fn.seen.items l.steps.items l.seen.items;
  all : (k : ℕ) → k < l.cell-index → IsSeen l.seen.items (get_or l.row k 0);
}
