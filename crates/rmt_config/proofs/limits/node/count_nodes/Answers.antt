use Rattle.std.proofs.Common.{take}
use Rattle.rmt_config.specs.Resources.{node_numbers}
use Rattle.rmt_config.proofs.LimitLemmas.{marks_of_stage}
use Rattle.rmt_config.proofs.limits.node.count_nodes.Goals as goal

pub loop-stage-preserved : goal.loop-stage-preserved
loop-stage-preserved c =
    let i = c.loop-stage.stage-index in
    marks_of_stage c.args.stages.now i c.stage-item.result c.as_slice.result.now c.mark_nodes.new.marks c.loop-stage-test.true c.stage-item.is c.as_slice.ensures
    (c.mark_nodes.ensures (node_numbers (take i c.args.stages.now)) c.loop-stage.invariant)
