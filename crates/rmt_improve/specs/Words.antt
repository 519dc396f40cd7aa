-- The words of the contracts that look for a better placement, passed on by one name.
pub use Rattle.rmt_place.specs.Words.{AreTwo, Edge, GoForward, GoesForward, IsLegal, IsPart, IsProgram, IsStuck, Keeps, Part, TellsWhy, all_edges, demand_at, demands_of, keeps_limits, placement, quanta_of, stages_in, standing_in}
pub use Rattle.rmt_improve.specs.Steps.{AreTaken, IsRank, IsRanked, as_try, is_free, is_held, listed, placed_by}
pub use Rattle.rmt_improve.specs.Tries.{best_try, better_placement, is_better, is_placed_better, order_of_try, try_in}
