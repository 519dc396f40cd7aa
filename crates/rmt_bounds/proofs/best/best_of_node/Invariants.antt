use Rattle.std.proofs.Common.{◌≡◌, ◌≤◌, ◌+◌, ◌*◌, take}
use Rattle.rmt_bounds.specs.Bounds.{best_of_node}
use Rattle.rmt_bounds.proofs.best.best_of_node.Given as goal

-- the best by the edges so far
abbrev pub invariant-loop-edge : goal.invariant-loop-edge
invariant-loop-edge l = record {
  value : l.best ≡ best_of_node l.program (take l.edge-index l.edges) l.bests l.node;
  small : l.best ≤ 512 * (l.node + 1);
}
