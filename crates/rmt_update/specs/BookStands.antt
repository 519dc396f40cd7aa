-- What a book stands for: the cells of a run, with the entries that their version sees.
use Rattle.std.specs.Prelude.{◌≡◌, ◌≢◌, ◌<◌, ◌==◌, ℕ, ◌%◌, ◌^◌, List, Bool, true, Option, Some, None, All, IfSome, map}
use Rattle.std.specs.List.{AllZip, list_any}
use Rattle.std.specs.BTreeMap.{get, keys}
use Rattle.std.specs.Ordering.{nat_cmp}
use Rattle.rmt_ast.specs.declared.entry.Entry.{Entry}
use Rattle.rmt_config.specs.declared.config.CellNumber.{CellNumber}
use Rattle.rmt_config.specs.declared.config.Config.{Config}
use Rattle.rmt_config.specs.Cells.{Content, candidates, cells_in, is_occupied}
use Rattle.rmt_config.specs.Commits.{IsCell}
use Rattle.rmt_config.specs.Form.{Formed}
use Rattle.rmt_config.specs.LaneForm.{bits_of_lanes}
use Rattle.rmt_config.specs.Rooms.{PartAt, parts_of}
use Rattle.rmt_config.specs.RunCells.{RunCells, emptied}
use Rattle.rmt_update.specs.declared.book.Book.{Book}
use Rattle.rmt_book.specs.declared.kept.Kept.{Kept}
use Rattle.rmt_book.specs.declared.table.PartCells.{PartCells}
use Rattle.rmt_book.specs.declared.table.TableCells.{TableCells}
use Rattle.rmt_update.specs.BookIndex.{IsBookIndex}
use Rattle.rmt_book.specs.Kept.{HasBytes, IsKept}
use Rattle.rmt_book.specs.PartShape.{IsShape}
use Rattle.rmt_book.specs.Seen.{IsReadable, entries_seen}

-- a cell of a part is one in which its key, as many bits as the part's keys have, may stand under a seed
abbrev pub is_candidate : ℕ → PartAt → ℕ → ℕ → Bool
is_candidate seed p key n = list_any (λ m. m == n) (candidates seed (bits_of_lanes p.slot.keys) p.slot.memory (key % 2 ^ bits_of_lanes p.slot.keys))

-- what is kept under a seed of a cell that holds this and has that number: nothing of an empty one, and else an entry that some version sees
abbrev pub IsKeptOf : ℕ → PartAt → Content → CellNumber → Option Kept → Type 0
IsKeptOf seed p x n None = (x ≡ emptied p.slot) × (n.number ≡ 0)
IsKeptOf seed p x n (Some k) =
    (is_occupied x.head ≡ true) × IsKept (bits_of_lanes p.slot.keys) p.slot.memory x n k × (is_candidate seed p x.key n.cell ≡ true) × (k.visible ≢ 0)

-- the cells of a part
pub record HoldsPart (cells : RunCells) (p : PartAt) (x : PartCells) : Type 0 where
  pub stage : x.stage ≡ p.stage
  pub place : x.place ≡ p.place
  pub first : x.first ≡ p.first
  pub shape : IsShape p.slot x.shape
  pub within : All (λ n. n < cells_in p.slot.memory) (keys x.cells)
  pub each : (n : ℕ) → n < cells_in p.slot.memory
      → IsKeptOf cells.seed p (cells.content p.stage p.place n) (record { cell = n; number = cells.number p.stage p.place n }) (get nat_cmp x.cells n)
  pub bytes : (n : ℕ) (k : Kept) → get nat_cmp x.cells n ≡ Some k → HasBytes p.slot k

-- the cells of the parts of a table
abbrev pub HoldsTable : Config → RunCells → TableCells → Type 0
HoldsTable c cells t = AllZip (HoldsPart cells) (parts_of c t.name.node) t.parts.items

-- a cell of a slot that has an entry
abbrev pub IsUsed : Config → RunCells → ℕ → ℕ → ℕ → Type 0
IsUsed c cells k place n = IsCell c k place n × (is_occupied (cells.content k place n).head ≡ true)

-- no two cells have entries of one number
abbrev pub HaveOwnNumbers : Config → RunCells → Type 0
HaveOwnNumbers c cells = (k place n k2 place2 n2 : ℕ) → IsUsed c cells k place n → IsUsed c cells k2 place2 n2 → cells.number k place n ≡ cells.number k2 place2 n2
    → (k ≡ k2) × (place ≡ place2) × (n ≡ n2)

-- a book holds the names of a configuration, the version (odd or even) and the seed of cells, each occupied cell of a table with its number, and
-- the ranks of entries, so that these are the entries that the version sees; where it has an index, it is that of its tables
pub record BookStands (c : Config) (cells : RunCells) (entries : List (List Entry)) (b : Book) : Type 0 where
  pub formed : Formed c
  pub names : c.names ≡ Some (record { tables = map (λ (t : TableCells). t.name) b.tables.items })
  pub version : b.odd ≡ (cells.version % 2 == 1)
  pub seed : b.seed ≡ cells.seed
  pub tables : All (HoldsTable c cells) b.tables.items
  pub numbers : HaveOwnNumbers c cells
  pub readable : All (IsReadable b.odd) b.tables.items
  pub lists : entries ≡ entries_seen b.odd b.tables.items b.nodes
  pub index : IfSome b.index (IsBookIndex b.odd b.tables.items)
