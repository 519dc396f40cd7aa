-- The parts of a table with new cells: each entry stands in the cell of its spot, and no other one does.
use Rattle.std.specs.Prelude.{◌≡◌, ◌<◌, ◌≤◌, ℕ, ◌==◌, true, List, [], if◌then◌else◌, Some, All, IsSome, length, slice_get, sum, unwrap_or}
use Rattle.std.specs.List.{AllZip}
use Rattle.std.specs.BTreeMap.{IsOrdered, get}
use Rattle.std.specs.Ordering.{nat_cmp}
use Rattle.rmt_ast.specs.declared.entry.Entry.{Entry}
use Rattle.rmt_ast.specs.declared.names.ActionName.{ActionName}
use Rattle.rmt_ast.specs.declared.names.TableName.{TableName}
use Rattle.rmt_ast.specs.Changes.{list_of}
use Rattle.rmt_ast.specs.EntryLists.{IsEntry}
use Rattle.rmt_ast.specs.NameRules.{table_is_formed, terms_of_name}
use Rattle.rmt_book.specs.declared.kept.Kept.{Kept}
use Rattle.rmt_book.specs.declared.spots.Spot.{Spot}
use Rattle.rmt_book.specs.declared.table.PartCells.{PartCells}
use Rattle.rmt_book.specs.declared.table.TableCells.{TableCells}
use Rattle.rmt_book.specs.Coming.{HasSizes, KeepsEntry}

-- a part but for its cells
pub record SamePart (x y : PartCells) : Type 0 where
  pub stage : y.stage ≡ x.stage
  pub place : y.place ≡ x.place
  pub first : y.first ≡ x.first
  pub shape : y.shape ≡ x.shape

-- a part without an entry
pub record IsCleared (x y : PartCells) : Type 0 where
  pub same : SamePart x y
  pub none : y.cells.entries ≡ []
  pub ordered : IsOrdered nat_cmp y.cells

-- the data of an entry has room in a part
abbrev pub HasRoomIn : TableName → Entry → PartCells → Type 0
HasRoomIn t e x = (a : ActionName) → slice_get t.actions e.action ≡ Some a → sum a.params ≤ x.shape.held

-- a part with an entry in a cell, which both versions see
pub record WithEntry (t : TableName) (e : Entry) (n : ℕ) (x y : PartCells) : Type 0 where
  pub same : SamePart x y
  pub kept : Kept
  pub keeps : KeepsEntry t x.first n 3 e kept
  pub sizes : HasSizes t x.shape.held kept
  pub put : (m : ℕ) → get nat_cmp y.cells m ≡ (if n == m then Some kept else get nat_cmp x.cells m)
  pub ordered : IsOrdered nat_cmp y.cells

-- the part of a spot is there, and the entry has room in it
pub record FitsInto (x : TableCells) (e : Entry) (s : Spot) : Type 0 where
  pub part : PartCells
  pub there : slice_get x.parts.items s.part ≡ Some part
  pub room : HasRoomIn x.name e part

-- the entry in a cell is one of the first so many, and the cell is its spot
pub record IsOneOf (t : TableName) (es : List Entry) (ss : List Spot) (count i n : ℕ) (y : PartCells) (k : Kept) : Type 0 where
  pub j : ℕ
  pub below : j < count
  pub entry : Entry
  pub in_entries : slice_get es j ≡ Some entry
  pub in_spots : slice_get ss j ≡ Some (record { part = i; cell = n })
  pub keeps : KeepsEntry t y.first n 3 entry k
  pub sizes : HasSizes t y.shape.held k

-- the first so many entries stand in the cells of their spots
pub record AreRefilled (x : TableCells) (es : List Entry) (ss : List Spot) (count : ℕ) (parts : List PartCells) : Type 0 where
  pub same : AllZip SamePart x.parts.items parts
  pub ordered : All (λ (y : PartCells). IsOrdered nat_cmp y.cells) parts
  pub there : (j : ℕ) (s : Spot) → j < count → slice_get ss j ≡ Some s → (y : PartCells) × (slice_get parts s.part ≡ Some y) × IsSome (get nat_cmp y.cells s.cell)
  pub found : (i n : ℕ) (y : PartCells) (k : Kept) → slice_get parts i ≡ Some y → get nat_cmp y.cells n ≡ Some k → IsOneOf x.name es ss count i n y k

-- the spots of a node
abbrev pub spots_of : List (List Spot) → ℕ → List Spot
spots_of spots node = unwrap_or (slice_get spots node) []

-- the entries of a table can stand in their spots
pub record TableFits (lists : List (List Entry)) (spots : List (List Spot)) (x : TableCells) : Type 0 where
  pub within : x.name.node < length lists
  pub in_spots : x.name.node < length spots
  pub formed : table_is_formed x.name ≡ true
  pub few : sum x.name.keys ≤ 640
  pub entries : All (IsEntry x.name.node (terms_of_name x.name)) (list_of lists x.name.node)
  pub fit : AllZip (FitsInto x) (list_of lists x.name.node) (spots_of spots x.name.node)

-- a table's parts with its entries in their spots
abbrev pub IsMoved : List (List Entry) → List (List Spot) → TableCells → List PartCells → Type 0
IsMoved lists spots x parts = AreRefilled x (list_of lists x.name.node) (spots_of spots x.name.node) (length (list_of lists x.name.node)) parts
