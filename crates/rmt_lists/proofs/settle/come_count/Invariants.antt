use Rattle.std.proofs.Common.{◌≡◌, ◌+◌, ◌≤◌, drop, length}
use Rattle.rmt_lists.specs.Stands.{somes}
use Rattle.rmt_lists.proofs.settle.come_count.Given as goal

-- the count so far, and then the others
abbrev pub invariant-loop-place : goal.invariant-loop-place
invariant-loop-place l = record {
  all : l.count + length (somes (drop l.place-index l.come)) ≡ length (somes l.come);
  few : l.count ≤ l.place-index;
}
