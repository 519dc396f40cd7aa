-- Where the entries that stay stand in the rows of a table, numbered over its parts in their order, and which rows are free.
use Rattle.std.specs.Prelude.{◌≡◌, ◌≤◌, ℕ, zero, suc, ◌+◌, ◌^◌, ◌==◌, ◌||◌, List, [], ◌∷◌, Bool, true, false, not, cond, Option, Some, None, All, length, map, option_map, slice_get, unwrap_or}
use Rattle.std.specs.List.{flat_map, range_with_len}
use Rattle.std.specs.BTreeMap.{get, is_at}
use Rattle.std.specs.BTreeSet.{BTreeSet, contains}
use Rattle.std.specs.Ordering.{nat_cmp}
use Rattle.rmt_ast.specs.RankPairs.{pair_cmp}
use Rattle.rmt_ast.specs.declared.program.Kind.{Kind}
use Rattle.rmt_ast.specs.declared.program.Kind.TheVariants as kind
use Rattle.rmt_update.specs.declared.book.index.TableIndex.{TableIndex}
use Rattle.rmt_update.specs.declared.book.index.TableIndex.TheVariants.{Cells, Rows}
use Rattle.rmt_book.specs.declared.kept.Kept.{Kept}
use Rattle.rmt_book.specs.declared.row_order.RowOrder.{RowOrder}
use Rattle.rmt_book.specs.declared.spots.Spot.{Spot}
use Rattle.rmt_book.specs.declared.table.PartCells.{PartCells}
use Rattle.rmt_book.specs.declared.table.TableCells.{TableCells}
use Rattle.rmt_update.specs.Open.{is_kept_seen}
use Rattle.rmt_book.specs.PartShape.{cell_count}
use Rattle.rmt_book.specs.RowOrder.{key_by}
use Rattle.rmt_book.specs.Seen.{is_seen}

-- what is kept of each row of a part, and of each row of a table
abbrev pub part_rows : PartCells → List (Option Kept)
part_rows x = map (get nat_cmp x.cells) (range_with_len 0 (cell_count x.shape.grid))

abbrev pub rows_of : List PartCells → List (Option Kept)
rows_of xs = flat_map part_rows xs

-- how many rows the parts before a place have, and the number of a row over all parts
abbrev pub rows_before : List PartCells → ℕ → ℕ
rows_before [] i = 0
rows_before (x ∷ xs) zero = 0
rows_before (x ∷ xs) (suc i) = cell_count x.shape.grid + rows_before xs i

abbrev pub row_number : List PartCells → Spot → ℕ
row_number xs s = rows_before xs s.part + s.cell

-- the version sees an entry, and it doesn't go
abbrev pub Stays : Bool → (ℕ → Bool) → Kept → Type 0
Stays odd goes k = (is_seen odd k ≡ true) × (goes k.number ≡ false)

-- no entry goes
abbrev pub never : ℕ → Bool
never n = false

-- that of a number goes too
abbrev pub or_is : ℕ → (ℕ → Bool) → ℕ → Bool
or_is n goes m = goes m || (n == m)

-- what an entry of a kind is put in order by
abbrev pub kept_key : Kind → Kept → ℕ × ℕ
kept_key kind k = key_by kind k.rank k.number

-- no two rows have entries of one number
abbrev pub HaveOwnRows : List (Option Kept) → Type 0
HaveOwnRows xs = (i j : ℕ) (k l : Kept) → slice_get xs i ≡ Some (Some k) → slice_get xs j ≡ Some (Some l) → k.number ≡ l.number → i ≡ j

-- a row is there, and the version doesn't see it
abbrev pub is_unseen : Bool → List (Option Kept) → ℕ → Bool
is_unseen odd xs row = unwrap_or (option_map (λ (o : Option Kept). not (is_kept_seen odd o)) (slice_get xs row)) false

-- the rows of the entries that stay, by what they are put in order by, and the rows that the version doesn't see
pub record AreRows (kind : Kind) (odd : Bool) (goes : ℕ → Bool) (xs : List (Option Kept)) (o : RowOrder) : Type 0 where
  pub rows : (key : ℕ × ℕ) (row : ℕ) → get pair_cmp o.rows key ≡ Some row → (k : Kept) × (slice_get xs row ≡ Some (Some k)) × Stays odd goes k × (key ≡ kept_key kind k)
  pub all : (row : ℕ) (k : Kept) → slice_get xs row ≡ Some (Some k) → Stays odd goes k → get pair_cmp o.rows (kept_key kind k) ≡ Some row
  pub free : (row : ℕ) → contains nat_cmp o.free row ≡ is_unseen odd xs row

-- prefix and ternary tables have rows in an order
abbrev pub has_rows : Kind → Bool
has_rows kind.Keyless = false
has_rows kind.Exact = false
has_rows kind.Prefix = true
has_rows kind.Ternary = true

-- nothing was given in a part
abbrev pub IsNone : BTreeSet ℕ → Type 0
IsNone g = (n : ℕ) → contains nat_cmp g n ≡ false

-- the index of a table before entries come to it
abbrev pub IsIndex : Bool → (ℕ → Bool) → TableCells → TableIndex → Type 0
IsIndex odd goes t (Cells given) = (has_rows t.name.kind ≡ false) × (length given.items ≡ length t.parts.items) × All IsNone given.items
IsIndex odd goes t (Rows order) = (has_rows t.name.kind ≡ true) × (length (rows_of t.parts.items) ≤ 2 ^ 31) × AreRows t.name.kind odd goes (rows_of t.parts.items) order

-- the row of an entry is taken out
abbrev pub IsRowGone : ℕ × ℕ → TableIndex → TableIndex → Type 0
IsRowGone key (Cells given) (Cells new) = new ≡ given
IsRowGone key (Cells given) (Rows new) = ⊥
IsRowGone key (Rows order) (Cells given) = ⊥
IsRowGone key (Rows order) (Rows new) =
    ((k : ℕ × ℕ) → get pair_cmp new.rows k ≡ cond (is_at (pair_cmp key) k) None (get pair_cmp order.rows k)) × (new.free ≡ order.free)
