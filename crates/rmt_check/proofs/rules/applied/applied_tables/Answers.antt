use Rattle.std.proofs.Common.{filter_map, ap, ◌∙◌}
use Rattle.rmt_check.specs.Parts.{NodeText}
use Rattle.rmt_check.specs.Names.{applied}
use Rattle.rmt_check.proofs.Finding.{filtered_more, filtered_all}
use Rattle.rmt_check.proofs.rules.applied.applied_tables.Goals as goal

pub loop-node-preserved : goal.loop-node-preserved
loop-node-preserved c =
    filtered_more (λ (n : NodeText). applied n.what) _ _ _ _ _ _ c.loop-node-test.true c.node-item.is c.loop-node.invariant c.in_ok-add_applied.ensures

pub returns : goal.returns
returns c =
    filtered_all (λ (n : NodeText). applied n.what) _ _ _ _ c.loop-node-test.false c.loop-node.invariant
    ∙ ap (filter_map (λ (n : NodeText). applied n.what)) c.nodes_of-node-items.ensures
