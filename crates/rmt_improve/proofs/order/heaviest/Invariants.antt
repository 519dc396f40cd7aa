use Rattle.std.proofs.Common.{◌≡◌, ◌<◌, filter, length}
use Rattle.std.specs.Prelude.{IfSome}
use Rattle.std.specs.List.{range_with_len}
use Rattle.rmt_improve.specs.Orders.{heaviest as heaviest_of}
use Rattle.rmt_improve.specs.Steps.{is_free, listed}
use Rattle.rmt_improve.proofs.order.heaviest.Given as goal

-- the heaviest of the nodes so far
abbrev pub invariant-loop-node : goal.invariant-loop-node
invariant-loop-node l = record {
  best : listed l.best ≡ heaviest_of l.weights (filter (is_free l.taken l.held) (range_with_len 0 l.node));
  below : IfSome l.best (λ b. b < length l.weights);
}
