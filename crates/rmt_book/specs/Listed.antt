-- What a book holds of the parts of a table, cell by cell as a configuration lists them.
use Rattle.std.specs.Prelude.{◌≡◌, ℕ, List}
use Rattle.std.specs.List.{AllZip}
use Rattle.rmt_ast.specs.declared.names.TableName.{TableName}
use Rattle.rmt_config.specs.declared.config.CellNumber.{CellNumber}
use Rattle.rmt_config.specs.declared.config.Config.{Config}
use Rattle.rmt_config.specs.LaneForm.{bits_of_lanes}
use Rattle.rmt_config.specs.NamesForm.{held_by, rank_in}
use Rattle.rmt_config.specs.Rooms.{PartAt, parts_of}
use Rattle.rmt_book.specs.declared.kept.Kept.{Kept}
use Rattle.rmt_book.specs.declared.table.PartCells.{PartCells}
use Rattle.rmt_book.specs.declared.table.TableCells.{TableCells}
use Rattle.rmt_book.specs.Kept.{HasBytes, IsKept}
use Rattle.rmt_book.specs.PartShape.{IsShape}

-- a cell of a part by its number, with the rank of its entry
pub record IsRanked (c : Config) (t : TableName) (p : PartAt) (n : CellNumber) (x : ℕ × Kept) : Type 0 where
  pub at : x.0 ≡ n.cell
  pub kept : IsKept (bits_of_lanes p.slot.keys) p.slot.memory (held_by c p n) n x.1
  pub bytes : HasBytes p.slot x.1
  pub rank : x.1.rank ≡ rank_in t.kind t (held_by c p n).mask n.number

-- the cells that a part lists
pub record IsListed (c : Config) (t : TableName) (p : PartAt) (x : PartCells) : Type 0 where
  pub stage : x.stage ≡ p.stage
  pub place : x.place ≡ p.place
  pub first : x.first ≡ p.first
  pub shape : IsShape p.slot x.shape
  pub cells : AllZip (IsRanked c t p) p.slot.numbers x.cells.entries

-- those of all parts of a table
abbrev pub AreListed : Config → TableName → List PartCells → Type 0
AreListed c t parts = AllZip (IsListed c t) (parts_of c t.node) parts

-- a table of names with its cells
pub record IsTable (c : Config) (t : TableName) (x : TableCells) : Type 0 where
  pub name : x.name ≡ t
  pub parts : AreListed c t x.parts.items
