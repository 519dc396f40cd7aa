use Rattle.std.proofs.Common.{◌≡◌, ◌++◌}
use Rattle.std.specs.List.{flat_map, range_with_len}
use Rattle.rmt_build.specs.Planned.{part_planned}
use Rattle.rmt_build.proofs.told.push_node.Given as goal

-- those in the stages so far
abbrev pub invariant-loop-stage : goal.invariant-loop-stage
invariant-loop-stage l = l.cells ≡ l.initial.cells ++ flat_map (part_planned l.whole.program.now l.whole.entries.now l.whole.plan.now l.table l.node) (range_with_len 0 l.stage)
