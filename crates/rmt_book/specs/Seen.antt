-- The entries that a book's version sees.
use Rattle.std.specs.Prelude.{◌≢◌, ◌==◌, ℕ, ◌/◌, ◌%◌, List, [], Bool, if◌then◌else◌, AllPairs, IsTrue, filter, find, map, option_map, unwrap_or}
use Rattle.std.specs.List.{flat_map, range_with_len}
use Rattle.std.specs.BTreeMap.{values}
use Rattle.rmt_ast.specs.NameRules.{table_is_formed}
use Rattle.rmt_ast.specs.declared.entry.Entry.{Entry}
use Rattle.rmt_ast.specs.declared.names.TableName.{TableName}
use Rattle.rmt_config.specs.NamesForm.{by_number, has_order}
use Rattle.rmt_book.specs.declared.kept.Kept.{Kept}
use Rattle.rmt_book.specs.declared.table.PartCells.{PartCells}
use Rattle.rmt_book.specs.declared.table.TableCells.{TableCells}
use Rattle.rmt_book.specs.Told.{told_entry}

-- a cell has the visible bit of odd versions, or of even ones
abbrev pub is_seen : Bool → Kept → Bool
is_seen odd k = k.visible / (if odd then 2 else 1) % 2 == 1

-- the entries that are seen in a part, by cell
abbrev pub entries_in : Bool → TableName → PartCells → List Entry
entries_in odd t p = map (told_entry t p.first) (filter (is_seen odd) (values p.cells))

-- the entries that are seen in a table, by part and cell
abbrev pub entries_by_part : Bool → TableCells → List Entry
entries_by_part odd t = flat_map (entries_in odd t.name) t.parts.items

-- no two entries have one number
abbrev pub HaveNumbers : List Entry → Type 0
HaveNumbers es = AllPairs (λ (a b : Entry). a.number ≢ b.number) es

-- a table whose names keep the rules; no two entries that are seen have one number, and the rows of prefix and ternary ones stand in their order
pub record IsReadable (odd : Bool) (t : TableCells) : Type 0 where
  pub formed : IsTrue (table_is_formed t.name)
  pub numbers : HaveNumbers (entries_by_part odd t)
  pub order : IsTrue (has_order t.name.kind (entries_by_part odd t))

-- the entries that are seen in the table of a node, by number; none where there is no such table
abbrev pub entries_at : Bool → List TableCells → ℕ → List Entry
entries_at odd tables node = unwrap_or (option_map (λ t. by_number (entries_by_part odd t)) (find (λ (t : TableCells). t.name.node == node) tables)) []

-- the entry lists of that many nodes
abbrev pub entries_seen : Bool → List TableCells → ℕ → List (List Entry)
entries_seen odd tables nodes = map (entries_at odd tables) (range_with_len 0 nodes)
