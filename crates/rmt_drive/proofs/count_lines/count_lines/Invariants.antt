-- The lines so far, and those of the counters that are left, are all.
use Rattle.std.proofs.Common.{◌≡◌, ◌++◌, ◌-◌, ◌≤◌, drop, length}
use Rattle.std.specs.List.{flat_map}
use Rattle.rmt_drive.specs.SimText.{count_line}
use Rattle.rmt_drive.proofs.count_lines.count_lines.Given as goal

abbrev pub invariant-loop-at : goal.invariant-loop-at
invariant-loop-at l = record {
  inside : l.at ≤ length l.counters.counts;
  lines : l.text.items ++ flat_map count_line (drop l.at l.counters.counts) ≡ flat_map count_line l.counters.counts;
}

abbrev pub decreases-loop-at : goal.decreases-loop-at
decreases-loop-at l = length l.counters.counts - l.at
