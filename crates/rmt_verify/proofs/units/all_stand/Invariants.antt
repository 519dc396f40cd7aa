use Rattle.std.proofs.Common.{◌≢◌, ℕ, ◌<◌, get_or}
use Rattle.rmt_verify.specs.EdgeSpans.{no_span}
use Rattle.rmt_verify.proofs.units.all_stand.Given as goal

-- each node so far
abbrev pub invariant-loop-node : goal.invariant-loop-node
invariant-loop-node l = (n : ℕ) → n < l.node → get_or l.spans n no_span ≢ no_span
