-- What the rows of a ternary part compare, read from the rows of its blocks.
use Rattle.std.specs.Prelude.{◌≡◌, ◌≢◌, ℕ, ◌/◌, ◌%◌, ◌<◌, List, length, map, Option, Some, None, slice_index, if◌then◌else◌}
use Rattle.rmt_memory.specs.Types.{TcamRow, CellNumber}
use Rattle.rmt_config.specs.Cells.{tcam_row, blocks_at}
use Rattle.rmt_bits.specs.Grouping.{Compared}
use Rattle.rmt_memory.specs.declared.runs.Runs.{Runs}
use Rattle.rmt_memory.specs.Searching.{run_of}
use Rattle.rmt_memory.specs.Laying.{cell_at}
use Rattle.rmt_memory.specs.Sights.{seen_by}

-- a row by its number in the part, where a key takes that many blocks
abbrev pub compared_at : List TcamRow → List ℕ → ℕ → ℕ → Compared
compared_at rows blocks side cell = record {
  masks = map (λ b. tcam_row (λ (t : TcamRow). t.mask) rows b (cell % 2048)) (blocks_at blocks side (cell / 2048));
  values = map (λ b. tcam_row (λ (t : TcamRow). t.value) rows b (cell % 2048)) (blocks_at blocks side (cell / 2048));
}

-- what a sight shows of each of so many rows: of a listed one, by its head, what the row compares; no other row
pub record ShowsListed (sight count : ℕ) (rows : List TcamRow) (blocks : List ℕ) (side : ℕ) (numbers : List CellNumber) (heads : Runs) (shown : ℕ → Option Compared) : Type 0 where
  pub listed : (i : ℕ) → i < length numbers
      → shown (cell_at numbers i) ≡ (if seen_by sight (slice_index (run_of heads i) 0) then Some (compared_at rows blocks side (cell_at numbers i)) else None)
  pub others : (n : ℕ) → n < count → ((i : ℕ) → i < length numbers → cell_at numbers i ≢ n) → shown n ≡ None
