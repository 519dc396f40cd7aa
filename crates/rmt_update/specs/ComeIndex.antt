-- The index of the tables of a book once entries went and others came.
use Rattle.std.specs.Prelude.{◌≡◌, ◌≢◌, ◌<◌, ◌≤◌, ℕ, ◌^◌, ◌++◌, ◌&&◌, Bool, true, false, not, List, Option, Some, All, length, slice_get}
use Rattle.std.specs.BTreeMap.{get}
use Rattle.std.specs.BTreeSet.{contains}
use Rattle.std.specs.Ordering.{nat_cmp}
use Rattle.rmt_ast.specs.RankPairs.{pair_cmp}
use Rattle.rmt_ast.specs.declared.program.Kind.{Kind}
use Rattle.rmt_update.specs.declared.book.book_index.BookIndex.{BookIndex}
use Rattle.rmt_update.specs.declared.book.index.TableIndex.{TableIndex}
use Rattle.rmt_update.specs.declared.book.index.TableIndex.TheVariants.{Cells, Rows}
use Rattle.rmt_book.specs.declared.kept.Kept.{Kept}
use Rattle.rmt_update.specs.declared.book.placing.Coming.{Coming}
use Rattle.rmt_book.specs.declared.row_order.RowOrder.{RowOrder}
use Rattle.rmt_book.specs.declared.table.PartCells.{PartCells}
use Rattle.rmt_book.specs.declared.table.TableCells.{TableCells}
use Rattle.rmt_update.specs.BookIndex.{FindsCells}
use Rattle.rmt_update.specs.Open.{is_kept_seen}
use Rattle.rmt_update.specs.RowIndex.{has_rows, is_unseen, kept_key, rows_of}
use Rattle.rmt_book.specs.Seen.{is_seen}
use Rattle.rmt_book.specs.Spots.{spot_from}
use Rattle.rmt_update.specs.Turning.{cell_at, come_to, left_kept}

-- what is kept next of a row of the table at a place, where entries of these numbers go, and these come
abbrev pub next_row : Bool → List ℕ → List Coming → ℕ → List PartCells → ℕ → Option Kept
next_row odd gone come at parts row =
    come_to come (record { table = at; at = spot_from 0 parts row }) (left_kept odd gone (cell_at parts (spot_from 0 parts row)))

-- the rows of the entries that the next version sees, by what they are put in order by, and the rows that neither version sees
pub record AreNextRows (kind : Kind) (odd : Bool) (gone : List ℕ) (come : List Coming) (at : ℕ) (parts : List PartCells) (o : RowOrder) : Type 0 where
  pub rows : (key : ℕ × ℕ) (row : ℕ) → get pair_cmp o.rows key ≡ Some row
      → (row < length (rows_of parts)) × (k : Kept) × (next_row odd gone come at parts row ≡ Some k) × (is_seen (not odd) k ≡ true) × (key ≡ kept_key kind k)
  pub all : (row : ℕ) (k : Kept) → row < length (rows_of parts) → next_row odd gone come at parts row ≡ Some k → is_seen (not odd) k ≡ true
      → get pair_cmp o.rows (kept_key kind k) ≡ Some row
  pub free : (row : ℕ) → contains nat_cmp o.free row ≡ (is_unseen odd (rows_of parts) row && not (is_kept_seen (not odd) (next_row odd gone come at parts row)))

-- the index of the table at a place once entries of these numbers went, and these came
abbrev pub IsNextIndex : Bool → List ℕ → List Coming → ℕ → TableCells → TableIndex → Type 0
IsNextIndex odd gone come at t (Cells given) = (has_rows t.name.kind ≡ false) × (length given.items ≡ length t.parts.items)
IsNextIndex odd gone come at t (Rows order) =
    (has_rows t.name.kind ≡ true) × (length (rows_of t.parts.items) ≤ 2 ^ 31) × AreNextRows t.name.kind odd gone come at t.parts.items order

-- the index of all tables: their cells are found as they are yet
pub record HasPlaced (odd : Bool) (gone : List ℕ) (come : List Coming) (ts : List TableCells) (ix : BookIndex) : Type 0 where
  pub cells : FindsCells ts ix
  pub count : length ix.tables.items ≡ length ts
  pub tables : (i : ℕ) (t : TableCells) (o : TableIndex) → slice_get ts i ≡ Some t → slice_get ix.tables.items i ≡ Some o → IsNextIndex odd gone come i t o

-- the entries that came to the table at a place, and its index behind them
pub record HasPlacedIn (odd : Bool) (gone : List ℕ) (ts : List TableCells) (at : ℕ) (old new : List Coming) (o : TableIndex) : Type 0 where
  pub more : List Coming
  pub changed : new ≡ old ++ more
  pub own : All (λ (x : Coming). x.spot.table ≡ at) more
  pub index : (t : TableCells) → slice_get ts at ≡ Some t → All (λ (x : Coming). x.spot.table ≢ at) old → IsNextIndex odd gone new at t o
