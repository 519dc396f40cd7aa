-- The words of the contracts that join the back end, passed on by one name.
pub use Rattle.rmt_bits.specs.declared.lane.Lane.{Lane}
pub use Rattle.rmt_ast.specs.declared.entry.Entry.{Entry}
pub use Rattle.rmt_ast.specs.EntryLists.{AreEntries}
pub use Rattle.rmt_ast.specs.NameRules.{CanBeNamed}
pub use Rattle.rmt_ast.specs.Naming.{names_of}
pub use Rattle.rmt_config.specs.declared.limits.LimitHit.{LimitHit}
pub use Rattle.rmt_config.specs.Agreement.{AgreesWith}
pub use Rattle.rmt_config.specs.NamesForm.{names_have_counts}
pub use Rattle.rmt_deps.specs.Edges.{dependencies_of}
pub use Rattle.rmt_phv.specs.Packing.{packing}
pub use Rattle.rmt_phv.specs.Places.{KeepsApart}
pub use Rattle.rmt_place.specs.Words.{AreTwo, IsPart, IsProgram, Keeps, Part, demand_at, demands_of, keeps_limits, placement, quanta_of, standing_in}
pub use Rattle.rmt_ptcam.specs.Clustering.{clustered}
pub use Rattle.rmt_ptcam.specs.Needs.{refusal}
pub use Rattle.rmt_refine.specs.Carries.{Carries, all_edges}
pub use Rattle.rmt_refine.specs.Outcomes.{entries_at}
pub use Rattle.rmt_refine.specs.Places.{PlacesCarried}
pub use Rattle.rmt_refine.specs.Units.{UnitCarried, nodes_in, table_at}
pub use Rattle.rmt_vliw.specs.Folding.{AreFoldings}
pub use Rattle.rmt_build.specs.Types.{Guard, Stage, Vliw}
pub use Rattle.rmt_build.specs.BuiltStage.{HaveParts, IsBuiltStage, SmallGuard, SmallUnit}
pub use Rattle.rmt_build.specs.Folds.{first_deep}
pub use Rattle.rmt_build.specs.Fronts.{IsFront}
pub use Rattle.rmt_build.specs.Loads.{AreAllLoaded, AreNotLoaded, IsFirstSeed, IsNotLoaded, layout_in, ways_for}
pub use Rattle.rmt_build.specs.Planned.{cells_planned, node_planned, part_planned}
pub use Rattle.rmt_build.specs.Plans.{IsPlan, IsPlanned, need_in, stands_of_part, taken_upto}
pub use Rattle.rmt_build.specs.Promises.{IsBounded, IsConfigOf, IsLaidOut, KeepsRules}
pub use Rattle.rmt_build.specs.Refusals.{first_refusal}
pub use Rattle.rmt_build.specs.Stages.{ArePlaced, AreStagesOf, IsGiven, IsPlanFor, LiesSo}
pub use Rattle.rmt_build.specs.Told.{cell_told}
pub use Rattle.rmt_build.specs.Tries.{AreTried, IsNodeTable, IsPlacedProgram, StandOrFull}
pub use Rattle.rmt_build.specs.UnitCode.{DoUnit, DoUnits}
