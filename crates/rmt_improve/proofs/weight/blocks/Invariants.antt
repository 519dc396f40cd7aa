use Rattle.std.proofs.Common.{◌≡◌, take}
use Rattle.rmt_improve.specs.Orders.{blocks_of}
use Rattle.rmt_improve.proofs.weight.blocks.Given as goal

-- the nodes so far
abbrev pub invariant-loop-demand : goal.invariant-loop-demand
invariant-loop-demand l = l.blocks.items ≡ blocks_of (take l.demand-index l.demands)
