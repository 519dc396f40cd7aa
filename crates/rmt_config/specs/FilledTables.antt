-- What is said of tables and of the cells of their parts, passed on by one name.
pub use Rattle.rmt_config.specs.LaneForm.{bits_of_lanes}
pub use Rattle.rmt_config.specs.MemoryRules.{MemoryIsFormed}
pub use Rattle.rmt_config.specs.NamesForm.{is_filled_so, is_of_kind}
pub use Rattle.rmt_config.specs.PartStands.{PartStands}
pub use Rattle.rmt_config.specs.PartsTold.{part_at, parts_at}
pub use Rattle.rmt_config.specs.TableStands.{TableStands}
