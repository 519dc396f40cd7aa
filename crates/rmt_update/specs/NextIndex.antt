-- How the index of a book goes on to the next version.
use Rattle.std.specs.Prelude.{◌≡◌, ◌<◌, ℕ, ◌^◌, ◌==◌, ◌&&◌, ◌||◌, Bool, true, false, not, cond, List, [], ◌∷◌, if◌then◌else◌, Option, Some, None, All, length, slice_get}
use Rattle.std.specs.List.{list_any}
use Rattle.std.specs.BTreeMap.{BTreeMap, get, is_at}
use Rattle.std.specs.BTreeSet.{contains}
use Rattle.std.specs.Ordering.{nat_cmp}
use Rattle.rmt_update.specs.declared.book.index.TableIndex.{TableIndex}
use Rattle.rmt_update.specs.declared.book.index.TableIndex.TheVariants.{Cells, Rows}
use Rattle.rmt_book.specs.declared.kept.Kept.{Kept}
use Rattle.rmt_update.specs.declared.book.placing.Coming.{Coming}
use Rattle.rmt_book.specs.declared.spot.BookSpot.{BookSpot}
use Rattle.rmt_book.specs.declared.table.PartCells.{PartCells}
use Rattle.rmt_book.specs.declared.table.TableCells.{TableCells}
use Rattle.rmt_book.specs.BookSpots.{kept_at}
use Rattle.rmt_update.specs.RowIndex.{IsNone, row_number}
use Rattle.rmt_book.specs.Seen.{is_seen}

-- ---- the spots of cells by the numbers of their entries

-- the entry of a cell has this number, and the version doesn't see it
abbrev pub is_unseen_of : Bool → ℕ → Option Kept → Bool
is_unseen_of odd n None = false
is_unseen_of odd n (Some k) = not (is_seen odd k) && (k.number == n)

-- the spots without those of cells among these that the version doesn't see
pub record AreSeenSpots (odd : Bool) (ts : List TableCells) (among : List BookSpot) (old new : BTreeMap ℕ BookSpot) : Type 0 where
  pub each : (n : ℕ) → get nat_cmp new n ≡ (if list_any (λ s. is_unseen_of odd n (kept_at ts s)) among then None else get nat_cmp old n)

-- the spot of a number behind entries that came, which is that of the last one of that number
abbrev pub spot_behind : List Coming → ℕ → Option BookSpot → Option BookSpot
spot_behind [] n o = o
spot_behind (x ∷ xs) n o = spot_behind xs n (if x.kept.number == n then Some x.spot else o)

-- ---- the indexes of tables

-- a row of the table at a place is that of one of these cells
abbrev pub is_row_of : ℕ → List PartCells → ℕ → BookSpot → Bool
is_row_of at parts row s = (s.table == at) && (row_number parts s.at == row)

-- the cells of a table at a place that are among these have numbers of rows of 32 bits
abbrev pub HasFewRows : ℕ → List PartCells → List BookSpot → TableIndex → Type 0
HasFewRows at parts among (Cells given) = Unit {0}
HasFewRows at parts among (Rows order) = All (λ s. s.table ≡ at → row_number parts s.at < 2 ^ 32) among

-- a number of a row of an index of rows has 32 bits
abbrev pub IsFewRow : ℕ → TableIndex → Type 0
IsFewRow row (Cells given) = Unit {0}
IsFewRow row (Rows order) = row < 2 ^ 32

-- a row is free from now on
abbrev pub IsRowFreed : ℕ → TableIndex → TableIndex → Type 0
IsRowFreed row (Cells given) (Cells new) = new ≡ given
IsRowFreed row (Cells given) (Rows new) = ⊥
IsRowFreed row (Rows order) (Cells given) = ⊥
IsRowFreed row (Rows order) (Rows new) =
    (new.rows ≡ order.rows) × ((i : ℕ) → contains nat_cmp new.free i ≡ cond (is_at (nat_cmp row) i) true (contains nat_cmp order.free i))

-- the rows of these cells of the table at a place are free too
abbrev pub AreFreed : ℕ → List PartCells → List BookSpot → TableIndex → TableIndex → Type 0
AreFreed at parts among (Cells given) (Cells new) = new ≡ given
AreFreed at parts among (Cells given) (Rows new) = ⊥
AreFreed at parts among (Rows order) (Cells given) = ⊥
AreFreed at parts among (Rows order) (Rows new) =
    (new.rows ≡ order.rows) × ((row : ℕ) → contains nat_cmp new.free row ≡ (contains nat_cmp order.free row || list_any (is_row_of at parts row) among))

pub record AreAllFreed (ts : List TableCells) (among : List BookSpot) (old new : List TableIndex) : Type 0 where
  pub count : length new ≡ length old
  pub each : (i : ℕ) (t : TableCells) (o p : TableIndex) → slice_get ts i ≡ Some t → slice_get old i ≡ Some o → slice_get new i ≡ Some p → AreFreed i t.parts.items among o p

-- the index of a table in which no cell is given any more
abbrev pub IsRenewed : TableIndex → TableIndex → Type 0
IsRenewed (Cells given) (Cells new) = (length new.items ≡ length given.items) × All IsNone new.items
IsRenewed (Cells given) (Rows new) = ⊥
IsRenewed (Rows order) (Cells given) = ⊥
IsRenewed (Rows order) (Rows new) = new ≡ order
