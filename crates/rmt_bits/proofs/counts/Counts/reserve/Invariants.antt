use Rattle.std.proofs.Common.{◌≡◌, ◌≤◌, ◌-◌}
use Rattle.rmt_bits.proofs.counts.Counts.reserve.Given as goal

abbrev pub invariant-loop-self : goal.invariant-loop-self
invariant-loop-self l = record {
  counts_are : l.self.counts ≡ l.initial.self.counts;
  kept : l.initial.self.room ≤ l.self.room;
}

abbrev pub decreases-loop-self : goal.decreases-loop-self
decreases-loop-self l = l.more - l.self.room
