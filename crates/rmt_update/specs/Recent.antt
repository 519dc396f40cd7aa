-- The cells of a book that don't have both visible bits, as the last commits left them.
use Rattle.std.specs.Prelude.{List, Bool, not, ◌==◌, filter}
use Rattle.std.specs.List.{flat_map}
use Rattle.std.specs.BTreeMap.{values}
use Rattle.rmt_book.specs.declared.kept.Kept.{Kept}
use Rattle.rmt_book.specs.declared.table.PartCells.{PartCells}
use Rattle.rmt_book.specs.declared.table.TableCells.{TableCells}

abbrev pub is_recent : Kept → Bool
is_recent k = not (k.visible == 3)

-- those of a part, of a table, and of all
abbrev pub recent_in : PartCells → List Kept
recent_in p = filter is_recent (values p.cells)

abbrev pub recent_of : TableCells → List Kept
recent_of t = flat_map recent_in t.parts.items

abbrev pub recent : List TableCells → List Kept
recent tables = flat_map recent_of tables
