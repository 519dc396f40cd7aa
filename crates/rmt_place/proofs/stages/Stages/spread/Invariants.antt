use Rattle.std.proofs.Common.{◌≡◌, ℕ, ◌-◌, ◌++◌, ◌≤◌}
use Rattle.std.specs.List.{range_with_len}
use Rattle.rmt_place.specs.Needs.{demand_at}
use Rattle.rmt_place.specs.Placing.{spread, stages_from, standing_in}
use Rattle.rmt_place.specs.StagesSoFar.{AreFilled}
use Rattle.rmt_place.proofs.stages.Stages.spread.Given as goal

abbrev pub invariant-loop-stage : goal.invariant-loop-stage
invariant-loop-stage l = record {
  stands : AreFilled l.demands l.self;
  apart : (k : ℕ) → l.stage ≤ k → standing_in l.demands l.self.parts.items k ≡ standing_in l.demands l.fn.self.parts.items k;
  parts : l.self.parts.items ++ (spread l.demands l.fn.self.parts.items l.node (range_with_len l.stage (32 - l.stage)) l.left).parts
      ≡ l.fn.self.parts.items ++ (spread l.demands l.fn.self.parts.items l.node (stages_from l.fn.earliest) (demand_at l.demands l.node).quanta).parts;
  left : (spread l.demands l.fn.self.parts.items l.node (range_with_len l.stage (32 - l.stage)) l.left).left
      ≡ (spread l.demands l.fn.self.parts.items l.node (stages_from l.fn.earliest) (demand_at l.demands l.node).quanta).left;
}
