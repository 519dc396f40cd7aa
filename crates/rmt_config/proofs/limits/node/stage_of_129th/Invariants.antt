-- No stage so far has, with those before it, more than 128 nodes.
use Rattle.std.proofs.Common.{◌≡◌, ℕ, ◌+◌, ◌<◌, ◌≤◌, take}
use Rattle.rmt_config.specs.Resources.{node_numbers, node_count}
use Rattle.rmt_config.specs.LimitSteps.{Marks}
use Rattle.rmt_config.proofs.limits.node.stage_of_129th.Given as goal

abbrev pub invariant-loop-stage : goal.invariant-loop-stage
invariant-loop-stage l = record {
  place : l.number ≡ l.stage-index;
  seen : Marks (node_numbers (take l.stage-index l.stages)) l.marks;
  not_yet : (k : ℕ) → k < l.stage-index → node_count (take (k + 1) l.stages) ≤ 128;
}
