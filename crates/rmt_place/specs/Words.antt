-- The words of the contracts that place nodes, passed on by one name.
pub use Rattle.rmt_ast.specs.declared.deps.Edge.{Edge}
pub use Rattle.rmt_ast.specs.WellFormed.{IsProgram}
pub use Rattle.rmt_deps.specs.Edges.{GoForward, GoesForward}
pub use Rattle.rmt_deps.specs.Levels.{all_edges}
pub use Rattle.rmt_pack.specs.declared.placement.Part.{Part}
pub use Rattle.rmt_pack.specs.Placements.{IsLegal, Keeps, is_strict, quanta_of}
pub use Rattle.rmt_place.specs.Needs.{demand_at, demands_of, keeps_limits}
pub use Rattle.rmt_place.specs.Placing.{AreTwo, IsGoodOrder, IsPart, IsStuck, TellWhy, TellsWhy, allowed_by, earliest_stage, placed_node, placement, placement_in, standing_in}
pub use Rattle.rmt_place.specs.StagesSoFar.{AreFilled}
pub use Rattle.rmt_place.specs.Starting.{stages_in}
pub use Rattle.rmt_place.specs.Steps.{AreLast}
