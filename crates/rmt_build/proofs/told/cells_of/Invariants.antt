use Rattle.std.proofs.Common.{◌≡◌}
use Rattle.std.specs.List.{flat_map, range_with_len}
use Rattle.rmt_build.specs.Planned.{node_planned}
use Rattle.rmt_build.proofs.told.cells_of.Given as goal

-- those of the nodes so far
abbrev pub invariant-loop-node : goal.invariant-loop-node
invariant-loop-node l = l.cells ≡ flat_map (node_planned l.whole.program.now l.whole.entries.now l.whole.plan.now) (range_with_len 0 l.node)
