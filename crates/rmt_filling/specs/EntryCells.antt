-- In which cells of its table each entry stands.
use Rattle.std.specs.Prelude.{◌≡◌, ◌<◌, ◌⊎◌, ℕ, ◌+◌, ◌-◌, ◌*◌, List, Bool, ◌&&◌, nat_lt, nat_le, AllPairs, filter, map, length, slice_get, Some}
use Rattle.std.specs.List.{range_with_len}
use Rattle.std.specs.List.Sorted.{IsPermutation}
use Rattle.rmt_filling.specs.Types.{Kind}
use Rattle.rmt_ast.specs.declared.program.Kind.TheVariants.{Keyless, Exact, Prefix, Ternary}
use Rattle.rmt_ast.specs.declared.entry.Entry.{Entry}
use Rattle.rmt_filling.specs.declared.stands.Stand.{Stand}

-- how many cells so many quanta of a table have, where a row of an exact one has that many
abbrev pub cells_for : Kind → ℕ → ℕ → ℕ
cells_for Keyless per quanta = 0
cells_for Exact per quanta = 4096 * quanta * per
cells_for Prefix per quanta = 2048 * quanta
cells_for Ternary per quanta = 2048 * quanta

-- ---- the entries of one part

-- an entry stands in so many cells from one on
abbrev pub stands_there : ℕ → ℕ → Stand → Bool
stands_there first cells s = nat_le first s.cell && nat_lt s.cell (first + cells)

-- its cell, counted from there
abbrev pub counted_from : ℕ → Stand → Stand
counted_from first s = record { cell = s.cell - first; entry = s.entry }

-- the entries that stand in so many cells from one on, with their cells counted from there
abbrev pub stands_within : ℕ → ℕ → List Stand → List Stand
stands_within first cells stands = map (counted_from first) (filter (stands_there first cells) stands)

-- ---- the entries of a whole table

-- the first entry goes first in a prefix or ternary table: the longer prefix, the less priority number, then the earlier line
abbrev pub GoesFirst : Kind → Entry → Entry → Type 0
GoesFirst Keyless a b = ⊥
GoesFirst Exact a b = ⊥
GoesFirst Prefix a b = (b.rank < a.rank) ⊎ ((a.rank ≡ b.rank) × (a.number < b.number))
GoesFirst Ternary a b = (a.rank < b.rank) ⊎ ((a.rank ≡ b.rank) × (a.number < b.number))

-- each entry of a list stands in one cell, and no two in one; they are told by rising cell
pub record StandOnce (count : ℕ) (stands : List Stand) : Type 0 where
  pub each : IsPermutation (range_with_len 0 count) (map (λ (s : Stand). s.entry) stands)
  pub rise : AllPairs (λ (a b : Stand). a.cell < b.cell) stands

-- they stand in one row behind another, each behind those that go first
pub record StandInOrder (kind : Kind) (es : List Entry) (stands : List Stand) : Type 0 where
  pub each : IsPermutation (range_with_len 0 (length es)) (map (λ (s : Stand). s.entry) stands)
  pub rows : map (λ (s : Stand). s.cell) stands ≡ range_with_len 0 (length es)
  pub order : AllPairs (λ (a b : Stand). (e f : Entry) → slice_get es a.entry ≡ Some e → slice_get es b.entry ≡ Some f → GoesFirst kind e f) stands

-- an entry stands in the cell into which it is loaded
abbrev pub IsLoadedAt : List ℕ → Stand → Type 0
IsLoadedAt cells s = slice_get cells s.entry ≡ Some s.cell
