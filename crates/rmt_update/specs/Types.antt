-- The types of entries, of configurations with their cells, and of books, passed on by one name.
pub use Rattle.rmt_ast.specs.declared.entry.Entry.{Entry}
pub use Rattle.rmt_ast.specs.declared.names.ActionName.{ActionName}
pub use Rattle.rmt_ast.specs.declared.names.Names.{Names}
pub use Rattle.rmt_config.specs.RunCells.{RunCells}
pub use Rattle.rmt_config.specs.declared.config.Config.{Config}
pub use Rattle.rmt_book.specs.declared.kept.Kept.{Kept}
pub use Rattle.rmt_book.specs.declared.spot.BookSpot.{BookSpot}
pub use Rattle.rmt_book.specs.declared.spots.Spot.{Spot}
pub use Rattle.rmt_book.specs.declared.table.PartCells.{PartCells}
pub use Rattle.rmt_book.specs.declared.table.TableCells.{TableCells}
