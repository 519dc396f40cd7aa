use Rattle.std.proofs.Common.{◌++◌, ◌∙◌, sym, ap}
use Rattle.rmt_build.specs.Planned.{node_planned}
use Rattle.rmt_filling.proofs.ListLaws.{flat_range_more}
use Rattle.rmt_build.proofs.told.cells_of.Goals as goal

pub loop-node-preserved : goal.loop-node-preserved
loop-node-preserved c =
    let own = node_planned c.args.whole.now.program.now c.args.whole.now.entries.now c.args.whole.now.plan.now in
    let n = c.loop-node.node in
    c.in_ok-push_node.ensures ∙ (ap (λ xs. xs ++ own n) c.loop-node.invariant ∙ sym (flat_range_more own n))
