-- The cells of a book's tables, one after another, as an index of them is made.
use Rattle.std.specs.Prelude.{◌≡◌, ℕ, ◌+◌, List, [], ◌∷◌, ◌++◌, true, None, Option, Some, All, Contains, IsSome, map}
use Rattle.std.specs.Map.{update_all}
use Rattle.std.specs.Ordering.{eq_by_cmp, nat_cmp}
use Rattle.rmt_update.specs.declared.book.book_index.Gathered.{Gathered}
use Rattle.rmt_book.specs.declared.kept.Kept.{Kept}
use Rattle.rmt_book.specs.declared.spot.BookSpot.{BookSpot}
use Rattle.rmt_book.specs.declared.table.PartCells.{PartCells}
use Rattle.rmt_book.specs.declared.table.TableCells.{TableCells}
use Rattle.rmt_update.specs.Recent.{is_recent}

-- what comes of items, of which the first has that number
abbrev pub numbered : {X Y : Type 0} → (ℕ → X → List Y) → ℕ → List X → List Y
numbered f n [] = []
numbered f n (x ∷ xs) = f n x ++ numbered f (n + 1) xs

-- the occupied cells of a part of the table at a place, each with what is kept of it
abbrev pub part_cells : ℕ → ℕ → PartCells → List (BookSpot × Kept)
part_cells table part x = map (λ (e : ℕ × Kept). (record { table = table; at = record { part = part; cell = e.0 } }, e.1)) x.cells.entries

-- those of a table, and of all tables
abbrev pub table_cells : ℕ → List PartCells → List (BookSpot × Kept)
table_cells table xs = numbered (part_cells table) 0 xs

abbrev pub all_cells : List TableCells → List (BookSpot × Kept)
all_cells ts = numbered (λ table (t : TableCells). table_cells table t.parts.items) 0 ts

-- Some numbers with spots, and some spots, have these cells: those that are found are among them, each number of theirs is found, and those
-- that don't have both visible bits are listed.
pub record HasCells (cells : List (BookSpot × Kept)) (find : ℕ → Option BookSpot) (listed : List BookSpot) : Type 0 where
  pub spots : (n : ℕ) (s : BookSpot) → find n ≡ Some s → (k : Kept) × Contains cells (s, k) × (k.number ≡ n)
  pub all : (s : BookSpot) (k : Kept) → Contains cells (s, k) → IsSome (find k.number)
  pub each : All (λ s. (k : Kept) × Contains cells (s, k) × (is_recent k ≡ true)) listed
  pub recent : (s : BookSpot) (k : Kept) → Contains cells (s, k) → is_recent k ≡ true → Contains listed s

-- the last spot with a number
abbrev pub found_in : List (ℕ × BookSpot) → ℕ → Option BookSpot
found_in spots n = update_all (eq_by_cmp nat_cmp) (λ _. None) spots n

abbrev pub HasGathered : List (BookSpot × Kept) → Gathered → Type 0
HasGathered cells g = HasCells cells (found_in g.spots.items) g.recent.items
