-- The words of other crates that the contracts of commands name, passed on by one name.
pub use Rattle.rmt_ast.specs.EntryLists.{AreEntries}
pub use Rattle.rmt_ast.specs.WellFormed.{IsProgram}
pub use Rattle.rmt_config.specs.Form.{Formed}
pub use Rattle.rmt_config.specs.Limits.{IsWithinLimits}
pub use Rattle.rmt_io.specs.Outside.{OnlyPrinted}
pub use Rattle.rmt_drive.specs.Ends.{ReadsAndPrints, WritesAndPrints, outside}
pub use Rattle.rmt_drive.specs.Telling.{Tells}
