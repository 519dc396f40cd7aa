-- How the cells of a slot are laid out for reading: the entries in them, and runs of bytes by listed cell.
use Rattle.std.specs.Prelude.{◌≡◌, ◌≢◌, ℕ, ◌<◌, ◌∷◌, ◌++◌, List, length, take, slice_index, slice_index_or}
use Rattle.std.specs.Int.{to_be_bytes, w32}
use Rattle.std.specs.List.{flat_map}
use Rattle.rmt_bits.specs.Bits.{bytes_of}
use Rattle.rmt_memory.specs.Types.{CellNumber}
use Rattle.rmt_config.specs.declared.form.layout.CellLayout.{CellLayout}
use Rattle.rmt_memory.specs.declared.runs.Runs.{Runs}
use Rattle.rmt_memory.specs.Searching.{run_of}
use Rattle.rmt_config.specs.Cells.{Blocks}
use Rattle.rmt_config.specs.Layouts.{quantum_of, local_of, entry_in}

-- the entry of a cell by its number in the memory
abbrev pub entry_of : CellLayout → Blocks → List ℕ → ℕ → ℕ
entry_of l held blocks cell = entry_in l held blocks (quantum_of l cell) (local_of l cell)

-- a value of each listed cell as that many bytes, the highest first
abbrev pub runs_of : ℕ → (ℕ → ℕ) → List CellNumber → List ℕ
runs_of size value numbers = flat_map (λ (c : CellNumber). bytes_of size (value c.cell)) numbers

-- a cell number that stands nowhere
abbrev pub nowhere : CellNumber
nowhere = record { cell = 0; number = 0 }

-- the listed cell at a place
abbrev pub cell_at : List CellNumber → ℕ → ℕ
cell_at numbers at = (slice_index_or numbers at nowhere).cell

-- so many bytes of a number, the highest first: all four, or none
abbrev pub number_bytes : ℕ → ℕ → List ℕ
number_bytes size n = take size (to_be_bytes w32 n)

-- the bytes of a listed cell, of its head, its key, its data and the number of its entry
abbrev pub bytes_at : ℕ → List CellNumber → Runs → Runs → Runs → ℕ → List ℕ
bytes_at tail numbers heads keys held i =
    slice_index (run_of heads i) 0 ∷ (run_of keys i ++ (run_of held i ++ number_bytes tail (slice_index_or numbers i nowhere).number))

-- the first of the listed cells have their bytes, and all others stay
pub record CellsPut (tail : ℕ) (numbers : List CellNumber) (heads keys held : Runs) (count : ℕ) (old new : Runs) : Type 0 where
  pub size : new.size ≡ old.size
  pub same : new.count ≡ old.count
  pub listed : (bytes : ℕ → List ℕ) → ((i : ℕ) → i < length numbers → bytes_at tail numbers heads keys held i ≡ bytes (cell_at numbers i))
      → (i : ℕ) → i < count → run_of new (cell_at numbers i) ≡ bytes (cell_at numbers i)
  pub others : (n : ℕ) → n < old.count → ((i : ℕ) → i < count → cell_at numbers i ≢ n) → run_of new n ≡ run_of old n
