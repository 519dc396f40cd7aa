-- The index of the tables of a book: where their cells are found, and the rows of each.
use Rattle.std.specs.Prelude.{◌≡◌, ℕ, Bool, true, List, Some, All, Contains}
use Rattle.std.specs.List.{AllZip}
use Rattle.std.specs.BTreeMap.{get}
use Rattle.std.specs.Ordering.{nat_cmp}
use Rattle.rmt_update.specs.declared.book.book_index.BookIndex.{BookIndex}
use Rattle.rmt_book.specs.declared.kept.Kept.{Kept}
use Rattle.rmt_book.specs.declared.spot.BookSpot.{BookSpot}
use Rattle.rmt_book.specs.declared.table.TableCells.{TableCells}
use Rattle.rmt_book.specs.BookSpots.{kept_at}
use Rattle.rmt_update.specs.Recent.{is_recent}
use Rattle.rmt_update.specs.RowIndex.{IsIndex, never}

-- no two cells have entries of one number
abbrev pub AreApart : List TableCells → Type 0
AreApart tables = (s z : BookSpot) (k l : Kept) → kept_at tables s ≡ Some k → kept_at tables z ≡ Some l → k.number ≡ l.number → s ≡ z

-- the entry of a cell, which doesn't have both visible bits
abbrev pub IsRecentAt : List TableCells → BookSpot → Type 0
IsRecentAt tables s = (k : Kept) × (kept_at tables s ≡ Some k) × (is_recent k ≡ true)

-- the occupied cells are found by the numbers of their entries, and those that don't have both visible bits are listed
pub record FindsCells (ts : List TableCells) (ix : BookIndex) : Type 0 where
  pub spots : (n : ℕ) (s : BookSpot) → get nat_cmp ix.spots n ≡ Some s → (k : Kept) × (kept_at ts s ≡ Some k) × (k.number ≡ n)
  pub all : (s : BookSpot) (k : Kept) → kept_at ts s ≡ Some k → get nat_cmp ix.spots k.number ≡ Some s
  pub each : All (IsRecentAt ts) ix.recent.items
  pub recent : (s : BookSpot) (k : Kept) → kept_at ts s ≡ Some k → is_recent k ≡ true → Contains ix.recent.items s

-- the index of tables, as a version sees them
pub record IsBookIndex (odd : Bool) (ts : List TableCells) (ix : BookIndex) : Type 0 where
  pub cells : FindsCells ts ix
  pub tables : AllZip (IsIndex odd never) ts ix.tables.items
