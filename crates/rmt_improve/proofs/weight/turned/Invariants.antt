use Rattle.std.proofs.Common.{◌≡◌, map, take}
use Rattle.rmt_improve.specs.Orders.{turned}
use Rattle.rmt_improve.proofs.weight.turned.Given as goal

-- the edges so far
abbrev pub invariant-loop-edge : goal.invariant-loop-edge
invariant-loop-edge l = l.turned ≡ map (turned l.nodes) (take l.edge-index l.edges)
