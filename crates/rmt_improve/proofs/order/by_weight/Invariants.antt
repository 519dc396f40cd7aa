use Rattle.std.proofs.Common.{◌≡◌, length}
use Rattle.rmt_deps.specs.Levels.{all_edges}
use Rattle.rmt_improve.specs.Orders.{by_weight}
use Rattle.rmt_improve.specs.Steps.{AreTaken}
use Rattle.rmt_improve.proofs.order.by_weight.Given as goal

-- the nodes so far, and their marks
abbrev pub invariant-loop-step : goal.invariant-loop-step
invariant-loop-step l = record {
  order : l.order ≡ by_weight (all_edges l.deps) l.weights l._step;
  size : length l.taken.items ≡ length l.weights;
  marks : AreTaken l.order l.taken.items;
}
