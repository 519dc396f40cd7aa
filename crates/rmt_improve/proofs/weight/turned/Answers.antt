use Rattle.std.proofs.Common.{arith}
use Rattle.rmt_ast.specs.declared.deps.EdgeKind.TheVariants.{Match}
use Rattle.rmt_improve.proofs.weight.turned.Goals as goal

pub overflow_sub-nodes : goal.overflow_sub-nodes
overflow_sub-nodes c =
    let goes = c.requires c.loop-edge.edge-index record { from = 0; to = 0; kind = Match } c.loop-edge-test.true in
    let below = goes.is_node in omega arith

pub overflow_sub-nodes-in-loop-edge-2 : goal.overflow_sub-nodes-in-loop-edge-2
overflow_sub-nodes-in-loop-edge-2 c =
    let goes = c.requires c.loop-edge.edge-index record { from = 0; to = 0; kind = Match } c.loop-edge-test.true in
    let below = goes.is_node in omega arith
