use Rattle.std.proofs.Common.{take}
use Rattle.rmt_config.specs.Resources.{node_numbers}
use Rattle.rmt_config.specs.LimitSteps.{Marks}
use Rattle.rmt_config.proofs.limits.node.count_nodes.Given as goal

abbrev pub invariant-loop-stage : goal.invariant-loop-stage
invariant-loop-stage l = Marks (node_numbers (take l.stage-index l.stages)) l.marks
