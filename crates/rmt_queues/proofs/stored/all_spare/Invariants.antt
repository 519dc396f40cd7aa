use Rattle.std.proofs.Common.{◌≡◌, ◌≤◌, vec_capacity}
use Rattle.std.specs.List.{range_with_len}
use Rattle.rmt_queues.proofs.stored.all_spare.Given as goal

abbrev pub invariant-loop-index : goal.invariant-loop-index
invariant-loop-index l = record {
  numbers : l.spare.items ≡ range_with_len 0 l.index;
  room : l.count ≤ vec_capacity l.spare;
}
