use Rattle.std.proofs.Common.{◌≡◌, ◌<◌, ℕ, get_or, length}
use Rattle.rmt_deps.specs.declared.facts.Facts.{Facts}
use Rattle.rmt_deps.specs.Facts.{AreFacts}
use Rattle.rmt_deps.proofs.edges.dependencies.Given as goal

-- what is kept of the nodes so far
abbrev pub invariant-loop-number : goal.invariant-loop-number
invariant-loop-number l = record {
  count : length l.nodes.items ≡ l.number;
  each : (n : ℕ) (d : Facts) → n < length l.nodes.items → AreFacts l.program l.places n (get_or l.nodes.items n d);
}
