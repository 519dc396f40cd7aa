use Rattle.std.proofs.Common.{◌≡◌, false, take}
use Rattle.rmt_improve.specs.Orders.{joins}
use Rattle.rmt_improve.proofs.order.joins.Given as goal

-- none of the edges so far does
abbrev pub invariant-loop-edge : goal.invariant-loop-edge
invariant-loop-edge l = joins (take l.edge-index l.edges) l.from l.to ≡ false
