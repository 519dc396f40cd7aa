use Rattle.std.proofs.Common.{◌≡◌, take, map, filter}
use Rattle.std.specs.Prelude.{◌==◌, slice_index}
use Rattle.rmt_ast.specs.declared.deps.Edge.{Edge}
use Rattle.rmt_bounds.specs.Bounds.{least_of, through, edges_into}
use Rattle.rmt_bounds.proofs.best.node_before.Given as goal

-- the least by the edges so far
abbrev pub invariant-loop-edge : goal.invariant-loop-edge
invariant-loop-edge l =
    l.least
    ≡ least_of (map (λ (e : Edge). e.from) (filter (λ (e : Edge). through l.chains.program.now l.chains.bests.now e == slice_index l.chains.bests.now l.node) (edges_into (take l.edge-index l.chains.edges.now) l.node)))
