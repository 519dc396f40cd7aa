-- What stands from the place on, in what is left of the runs.
use Rattle.std.proofs.Common.{◌≡◌, ◌+◌, drop, length}
use Rattle.rmt_bits.specs.Counting.{joined}
use Rattle.rmt_bits.proofs.counts.runs.run_from.Given as goal

abbrev pub invariant-loop-run : goal.invariant-loop-run
invariant-loop-run l = record {
  rest : drop l.at (joined l.runs) ≡ drop l.left (joined (drop l.run-index l.runs));
  left_is : length (joined l.runs) + l.left ≡ length (joined (drop l.run-index l.runs)) + l.at;
}
