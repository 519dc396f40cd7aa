-- Marks of keys by a hash.
use Rattle.std.specs.Prelude.{◌≡◌, ℕ, ◌*◌, ◌/◌, ◌^◌, ◌<◌, true, List, length, take, drop, slice_index}
use Rattle.rmt_bits.specs.Hash.{fnv}
use Rattle.rmt_config.specs.Cells.{is_occupied}
use Rattle.rmt_memory.specs.declared.runs.Runs.{Runs}
use Rattle.rmt_memory.specs.Searching.{run_of}
use Rattle.rmt_memory.specs.Slicing.{bit_in}

-- the bit of a key among those of so many words
abbrev pub mark_bit : ℕ → List ℕ → ℕ
mark_bit count key = fnv key / 2 ^ 32 * (64 * count) / 2 ^ 32

-- it is set, where there are words
abbrev pub IsMarked : List ℕ → List ℕ → Type 0
IsMarked words key = 0 < length words → bit_in words (length words) 0 (mark_bit (length words) key) ≡ 1

-- so are those of the keys of the occupied cells below a number, which stand in so many bytes behind the heads
abbrev pub AreMarked : Runs → ℕ → ℕ → List ℕ → Type 0
AreMarked cells stored count words =
    (n : ℕ) → n < count → is_occupied (slice_index (run_of cells n) 0) ≡ true → IsMarked words (take stored (drop 1 (run_of cells n)))
