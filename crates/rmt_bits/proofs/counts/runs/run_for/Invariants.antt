-- The numbers of the runs before the lower one are below, and those of the runs from the higher one on above.
use Rattle.std.proofs.Common.{◌<◌, ◌≤◌, ◌-◌, length, take, drop}
use Rattle.std.specs.Prelude.{All}
use Rattle.rmt_bits.specs.declared.answer.Count.{Count}
use Rattle.rmt_bits.specs.Counting.{joined}
use Rattle.rmt_bits.proofs.counts.runs.run_for.Given as goal

abbrev pub invariant-loop-high : goal.invariant-loop-high
invariant-loop-high l = record {
  some : l.low < l.high;
  inside : l.high ≤ length l.runs;
  below : All (λ (c : Count). c.entry < l.number) (joined (take l.low l.runs));
  above : All (λ (c : Count). l.number < c.entry) (joined (drop l.high l.runs));
}

abbrev pub decreases-loop-high : goal.decreases-loop-high
decreases-loop-high l = l.high - l.low
