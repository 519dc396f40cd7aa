-- The types of a map, passed on by one name.
pub use Rattle.rmt_bits.specs.declared.lane.Lane.{Lane}
pub use Rattle.rmt_pack.specs.declared.placement.Part.{Part}
pub use Rattle.rmt_pack.specs.declared.placement.Placement.{Placement}
pub use Rattle.rmt_ptcam.specs.declared.joins.Join.{Join}
pub use Rattle.rmt_refine.specs.declared.map.CellOf.{CellOf}
pub use Rattle.rmt_refine.specs.declared.map.Map.{Map}
pub use Rattle.rmt_verify.specs.declared.map_file.MapFile.{MapFile}
