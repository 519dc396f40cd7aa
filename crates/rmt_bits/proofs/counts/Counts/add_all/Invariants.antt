use Rattle.std.proofs.Common.{◌≡◌, ◌+◌, ◌≤◌, [], take, length}
use Rattle.rmt_bits.specs.Counts.{counts}
use Rattle.rmt_bits.proofs.counts.Counts.add_all.Given as goal

abbrev pub invariant-loop-number : goal.invariant-loop-number
invariant-loop-number l = record {
  room : length l.numbers ≤ l.self.room + l.number-index;
  counts_are : l.self.counts ≡ counts (take l.number-index l.numbers) [];
}
