-- Bytes that are cut into pieces of 64, and cells that hold them.
use Rattle.std.specs.Prelude.{◌≡◌, ℕ, ◌+◌, ◌*◌, ◌/◌, ◌<◌, ◌≤◌, List, [], length, take, drop, slice_index_or}
use Rattle.rmt_cells.specs.Links.{after, walk, times}

-- how many cells so many bytes need
abbrev pub cells_for : ℕ → ℕ
cells_for bytes = (bytes + 63) / 64

-- the piece of a number, of bytes that are cut into pieces of 64
abbrev pub piece : List ℕ → ℕ → List ℕ
piece bytes number = take 64 (drop (number * 64) bytes)

-- n of so many cells, from a cell on, and none of them twice
pub record IsRun (count : ℕ) (links : List ℕ) (first n : ℕ) : Type 0 where
  pub once : (cell : ℕ) → times cell (walk links first n) ≤ 1
  pub within : (cell : ℕ) → count ≤ cell → times cell (walk links first n) ≡ 0

-- the cells from a cell on begin each with a piece of the bytes
abbrev pub Spell : List (List ℕ) → List ℕ → ℕ → List ℕ → Type 0
Spell blocks links first bytes =
    (number : ℕ) → number < cells_for (length bytes)
    → take (length (piece bytes number)) (slice_index_or blocks (after links first number) []) ≡ piece bytes number
