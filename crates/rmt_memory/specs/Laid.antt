-- The memory of a slot as it is laid out: what the listed cells hold.
use Rattle.std.specs.Prelude.{◌≡◌, ◌≢◌, ℕ, ◌+◌, ◌<◌, List, length, Option, Some, None, map, slice_index, if◌then◌else◌}
use Rattle.std.specs.List.{range_with_len}
use Rattle.rmt_bits.specs.Grouping.{Compared}
use Rattle.rmt_memory.specs.Types.{Stage, SlotUnit, CellNumber}
use Rattle.rmt_config.specs.LaneForm.{bits_of_lanes}
use Rattle.rmt_config.specs.BlockCounts.{divided_up}
use Rattle.rmt_config.specs.Cells.{cells_in, content_of, number_of_cell}
use Rattle.rmt_memory.specs.declared.memory.SlotMemory.{SlotMemory}
use Rattle.rmt_memory.specs.declared.runs.Runs.{Runs}
use Rattle.rmt_memory.specs.declared.keys.Keys.{Keys}
use Rattle.rmt_memory.specs.declared.keys.Keys.TheVariants.{Nothing, InCells, InVectors}
use Rattle.rmt_memory.specs.Searching.{run_of}
use Rattle.rmt_memory.specs.Laying.{cell_at, bytes_at}
use Rattle.rmt_memory.specs.Slicing.{StandsFor}
use Rattle.rmt_memory.specs.Sights.{seen_by}
use Rattle.rmt_memory.specs.Memories.{FitsSlot, cell_bytes, compared_of}

-- a cell is none of those listed
abbrev pub Unlisted : List CellNumber → ℕ → Type 0
Unlisted numbers n = (i : ℕ) → i < length numbers → cell_at numbers i ≢ n

-- that many cells, of which the listed ones have these bytes, and no other is occupied
pub record CellsLaid (tail : ℕ) (numbers : List CellNumber) (heads keys held : Runs) (count : ℕ) (cells : Runs) : Type 0 where
  pub size : cells.size ≡ 1 + keys.size + held.size + tail
  pub all : cells.count ≡ count
  pub listed : (bytes : ℕ → List ℕ) → ((i : ℕ) → i < length numbers → bytes_at tail numbers heads keys held i ≡ bytes (cell_at numbers i))
      → (i : ℕ) → i < length numbers → run_of cells (cell_at numbers i) ≡ bytes (cell_at numbers i)
  pub others : (n : ℕ) → n < count → Unlisted numbers n → slice_index (run_of cells n) 0 ≡ 0

-- vectors have the listed cells as rows, and no other
abbrev pub VectorsLaid : Stage → SlotUnit → Keys → Type 0
VectorsLaid stage s Nothing = Unit {0}
VectorsLaid stage s (InCells ways) = Unit {0}
VectorsLaid stage s (InVectors v) =
    (sight : ℕ) (shown : ℕ → Option Compared) → sight < 3
    → ((i : ℕ) → i < length s.numbers → let c = content_of stage s (cell_at s.numbers i) in
    shown (cell_at s.numbers i) ≡ (if seen_by sight c.head then Some (compared_of (divided_up (bits_of_lanes s.keys) 40) c) else None))
    → ((n : ℕ) → n < cells_in s.memory → Unlisted s.numbers n → shown n ≡ None)
    → StandsFor sight (map shown (range_with_len 0 (cells_in s.memory))) v

-- what a memory has of the listed cells of a slot, and that no other is occupied
pub record Laid (stage : Stage) (s : SlotUnit) (m : SlotMemory) : Type 0 where
  pub fits : FitsSlot s m
  pub listed : (i : ℕ) → i < length s.numbers → run_of m.cells (cell_at s.numbers i)
      ≡ cell_bytes m.stored m.held_size m.number_size (content_of stage s (cell_at s.numbers i)) (number_of_cell s.numbers (cell_at s.numbers i))
  pub others : (n : ℕ) → n < cells_in s.memory → Unlisted s.numbers n → slice_index (run_of m.cells n) 0 ≡ 0
  pub vectors : VectorsLaid stage s m.keys
