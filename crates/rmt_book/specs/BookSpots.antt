-- What a book keeps of its cells.
use Rattle.std.specs.Prelude.{List, Option, option_and_then, slice_get}
use Rattle.std.specs.BTreeMap.{get}
use Rattle.std.specs.Ordering.{nat_cmp}
use Rattle.rmt_book.specs.declared.kept.Kept.{Kept}
use Rattle.rmt_book.specs.declared.spot.BookSpot.{BookSpot}
use Rattle.rmt_book.specs.declared.spots.Spot.{Spot}
use Rattle.rmt_book.specs.declared.table.PartCells.{PartCells}
use Rattle.rmt_book.specs.declared.table.TableCells.{TableCells}

-- what is kept of a cell of a table, and of a cell of a book
abbrev pub kept_in : TableCells → Spot → Option Kept
kept_in t s = option_and_then (λ (p : PartCells). get nat_cmp p.cells s.cell) (slice_get t.parts.items s.part)

abbrev pub kept_at : List TableCells → BookSpot → Option Kept
kept_at tables s = option_and_then (λ (t : TableCells). kept_in t s.at) (slice_get tables s.table)
