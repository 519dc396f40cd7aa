use Rattle.std.proofs.Common.{◌≡◌, map, take}
use Rattle.rmt_ast.specs.declared.program.Node.{Node}
use Rattle.rmt_place.specs.Needs.{what_demands}
use Rattle.rmt_place.proofs.demand.demands.Given as goal

abbrev pub invariant-loop-node : goal.invariant-loop-node
invariant-loop-node l = l.demands.items ≡ map (λ (node : Node). what_demands l.program l.places node.what) (take l.node-index l.program.nodes)
