use Rattle.std.proofs.Common.{◌≡◌, drop, []}
use Rattle.rmt_deps.specs.Levels.{all_edges}
use Rattle.rmt_place.specs.Placing.{placed_all}
use Rattle.rmt_place.specs.StagesSoFar.{AreFilled}
use Rattle.rmt_place.proofs.placing.place_in.Given as goal

abbrev pub invariant-loop-node : goal.invariant-loop-node
invariant-loop-node l = record {
  placed : placed_all l.demands (all_edges l.deps) (drop l.node-index l.order) l.stages.parts.items ≡ placed_all l.demands (all_edges l.deps) l.order [];
  stands : AreFilled l.demands l.stages;
}
