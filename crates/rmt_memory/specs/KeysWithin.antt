-- Where the keys of a memory stand, against the room of its cells, and before and after one of them is written.
use Rattle.std.specs.Prelude.{◌≡◌, ℕ, ◌*◌, ◌<◌, Bool, true, ◌&&◌, ◌==◌, nat_le, Option}
use Rattle.rmt_bits.specs.Grouping.{Compared}
use Rattle.rmt_memory.specs.declared.keys.Keys.{Keys}
use Rattle.rmt_memory.specs.declared.keys.Keys.TheVariants.{Nothing, InCells, InVectors}
use Rattle.rmt_memory.specs.KeyWords.{words_of}
use Rattle.rmt_memory.specs.Slicing.{RowSet}

-- the rows of all ways are among the cells, whose keys stand in them whole; each cell has a row in the vectors
abbrev pub keys_within : Keys → ℕ → ℕ → ℕ → Bool
keys_within Nothing key stored count = true
keys_within (InCells ways) key stored count = (stored == key) && nat_le (4 * ways.rows * ways.per) count
keys_within (InVectors v) key stored count = (stored == 0) && (count == 64 * v.width)

-- a cell has a row in the vectors, where there are some
abbrev pub HasRowAt : Keys → ℕ → Type 0
HasRowAt Nothing at = Unit {0}
HasRowAt (InCells ways) at = Unit {0}
HasRowAt (InVectors v) at = at < 64 * v.width

-- a mask and a key in that many words
abbrev pub compared_in : ℕ → ℕ → ℕ → Compared
compared_in words mask key = record { masks = words_of words mask; values = words_of words key }

-- the row of a cell in the vectors is another, which depends on how many words a key has and on the sight; all else stays
abbrev pub KeysSet : ℕ → (ℕ → ℕ → Option Compared) → Keys → Keys → Type 0
KeysSet at shown Nothing new = new ≡ Nothing
KeysSet at shown (InCells ways) new = new ≡ InCells ways
KeysSet at shown (InVectors v) Nothing = ⊥
KeysSet at shown (InVectors v) (InCells ways) = ⊥
KeysSet at shown (InVectors v) (InVectors w) = RowSet at (shown v.words) v w
