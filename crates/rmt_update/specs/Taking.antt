-- The cell of a table that one entry takes, and what the table's index is behind it.
use Rattle.std.specs.Prelude.{◌≡◌, ◌<◌, ◌≤◌, ◌^◌, ℕ, List, Bool, true, false, not, Option, Some, None, All, cond, length, map, option_map, slice_get, slice_set, sum}
use Rattle.std.specs.List.{AllZip}
use Rattle.std.specs.BTreeMap.{get, is_at}
use Rattle.std.specs.BTreeSet.{BTreeSet, contains}
use Rattle.std.specs.Ordering.{nat_cmp}
use Rattle.rmt_ast.specs.RankPairs.{pair_cmp}
use Rattle.rmt_ast.specs.declared.entry.Entry.{Entry}
use Rattle.rmt_ast.specs.declared.names.ActionName.{ActionName}
use Rattle.rmt_ast.specs.NameRules.{terms_of_name}
use Rattle.rmt_config.specs.Cells.{candidates}
use Rattle.rmt_config.specs.LaneForm.{bits_of_lanes}
use Rattle.rmt_config.specs.Rooms.{PartAt, key_number}
use Rattle.rmt_update.specs.declared.book.index.TableIndex.{TableIndex}
use Rattle.rmt_update.specs.declared.book.index.TableIndex.TheVariants.{Cells, Rows}
use Rattle.rmt_update.specs.declared.book.placing.Coming.{Coming}
use Rattle.rmt_book.specs.declared.row_order.RowOrder.{RowOrder}
use Rattle.rmt_book.specs.declared.spots.Spot.{Spot}
use Rattle.rmt_book.specs.declared.table.PartCells.{PartCells}
use Rattle.rmt_book.specs.declared.table.TableCells.{TableCells}
use Rattle.rmt_book.specs.Coming.{HasSizes, KeepsEntry}
use Rattle.rmt_update.specs.Loads.{HasShape}
use Rattle.rmt_update.specs.NextKept.{bit_of}
use Rattle.rmt_update.specs.Open.{first_open}
use Rattle.rmt_book.specs.PartShape.{cells_for}
use Rattle.rmt_update.specs.RowIndex.{rows_of}
use Rattle.rmt_book.specs.RowOrder.{AreInOrder, IsFirstFit, entry_key}
use Rattle.rmt_book.specs.Spots.{spot_from}

-- ---- of an exact table

-- the cells of each part in which a key may stand
abbrev pub candidates_at : ℕ → ℕ → List PartAt → List (List ℕ)
candidates_at seed key ps = map (λ (p : PartAt). candidates seed (bits_of_lanes p.slot.keys) p.slot.memory key) ps

-- the same by the shapes of the parts, for the bytes of the key
abbrev pub cells_of_parts : ℕ → List ℕ → List PartCells → List (List ℕ)
cells_of_parts seed key xs = map (λ (x : PartCells). cells_for seed key x.shape.grid) xs

-- a further cell is given
pub record IsGiven (old new : List (BTreeSet ℕ)) (s : Spot) : Type 0 where
  pub before : BTreeSet ℕ
  pub there : slice_get old s.part ≡ Some before
  pub behind : BTreeSet ℕ
  pub changed : new ≡ slice_set old s.part behind
  pub has : (n : ℕ) → contains nat_cmp behind n ≡ cond (is_at (nat_cmp s.cell) n) true (contains nat_cmp before n)

abbrev pub MayBeGiven : List (BTreeSet ℕ) → List (BTreeSet ℕ) → Option Spot → Type 0
MayBeGiven old new None = Unit {0}
MayBeGiven old new (Some s) = IsGiven old new s

-- an entry takes the first free one of the candidate cells of its key
pub record TakesOpen (odd : Bool) (seed : ℕ) (t : TableCells) (e : Entry) (old new : List (BTreeSet ℕ)) (spot : Option Spot) : Type 0 where
  pub first : (ps : List PartAt) → AllZip HasShape ps t.parts.items → All (λ (p : PartAt). bits_of_lanes p.slot.keys ≡ sum t.name.keys) ps
      → spot ≡ first_open odd 0 t.parts.items old (candidates_at seed (key_number (terms_of_name t.name) e) ps)
  pub given : MayBeGiven old new spot

-- ---- of a prefix or ternary table

-- a row has an entry from now on
abbrev pub IsRowGiven : ℕ × ℕ → RowOrder → RowOrder → Option ℕ → Type 0
IsRowGiven key old new None = Unit {0}
IsRowGiven key old new (Some row) =
    ((k : ℕ × ℕ) → get pair_cmp new.rows k ≡ cond (is_at (pair_cmp key) k) (Some row) (get pair_cmp old.rows k))
    × ((i : ℕ) → contains nat_cmp new.free i ≡ cond (is_at (nat_cmp row) i) false (contains nat_cmp old.free i))

-- an entry takes the first free row that keeps the order
pub record TakesRow (t : TableCells) (e : Entry) (old new : RowOrder) (spot : Option Spot) : Type 0 where
  pub row : Option ℕ
  pub first : IsFirstFit old.rows old.free (entry_key t.name.kind e) row
  pub spot_is : spot ≡ option_map (spot_from 0 t.parts.items) row
  pub given : IsRowGiven (entry_key t.name.kind e) old new row

-- rows in order, none of which is that of an entry
pub record HaveRoom (t : TableCells) (e : Entry) (o : RowOrder) : Type 0 where
  pub few : (k : ℕ × ℕ) (row : ℕ) → get pair_cmp o.rows k ≡ Some row → row < 2 ^ 31
  pub new : get pair_cmp o.rows (entry_key t.name.kind e) ≡ None
  pub order : AreInOrder o.rows
  pub free : (row : ℕ) → contains nat_cmp o.free row ≡ true → row < length (rows_of t.parts.items)

-- ---- of any table

-- an index may give an entry a cell
abbrev pub MayGive : TableCells → Entry → TableIndex → Type 0
MayGive t e (Cells given) = length given.items ≡ length t.parts.items
MayGive t e (Rows order) = HaveRoom t e order

-- an entry takes the first cell that it may take
abbrev pub TakesFrom : Bool → ℕ → TableCells → Entry → TableIndex → TableIndex → Option Spot → Type 0
TakesFrom odd seed t e (Cells given) (Cells new) spot = TakesOpen odd seed t e given.items new.items spot
TakesFrom odd seed t e (Cells given) (Rows order) spot = ⊥
TakesFrom odd seed t e (Rows order) (Cells given) spot = ⊥
TakesFrom odd seed t e (Rows order) (Rows new) spot = TakesRow t e order new spot

-- the arguments of an entry fit the data of each part
abbrev pub Holds : TableCells → Entry → PartCells → Type 0
Holds t e x = (a : ActionName) → slice_get t.name.actions e.action ≡ Some a → sum a.params ≤ x.shape.held

-- an entry comes to a cell of the table at a place
pub record IsComing (odd : Bool) (at : ℕ) (t : TableCells) (e : Entry) (s : Spot) (x : Coming) : Type 0 where
  pub spot : x.spot ≡ record { table = at; at = s }
  pub part : PartCells
  pub there : slice_get t.parts.items s.part ≡ Some part
  pub keeps : KeepsEntry t.name part.first s.cell (bit_of (not odd)) e x.kept
  pub sizes : HasSizes t.name part.shape.held x.kept

abbrev pub MayCome : Bool → ℕ → TableCells → Entry → Option Spot → Option Coming → Type 0
MayCome odd at t e None None = Unit {0}
MayCome odd at t e None (Some x) = ⊥
MayCome odd at t e (Some s) None = ⊥
MayCome odd at t e (Some s) (Some x) = IsComing odd at t e s x
