use Rattle.std.proofs.Common.{ℕ, ◌<◌, get_or}
use Rattle.rmt_verify.proofs.edges.starts.each_rises.Given as goal

abbrev pub invariant-loop-at : goal.invariant-loop-at
invariant-loop-at l = (j k : ℕ) → j < k → k < l.at → get_or l.starts j 0 < get_or l.starts k 0
