-- What stands in the cells of a part: an entry, which is a head and a key, and a record.
use Rattle.std.specs.Prelude.{◌≡◌, ◌≢◌, ℕ, ◌+◌, ◌*◌, ◌-◌, ◌/◌, ◌%◌, ◌<◌, List, if◌then◌else◌, Contains}
use Rattle.rmt_bits.specs.Bits.{deposit, bytes_of}
use Rattle.rmt_config.specs.BlockCounts.{divided_up, record_width, records_a_row, record_units}
use Rattle.rmt_config.specs.Cells.{Blocks, unit_row, blocks_at, Cell, cell_of, local_index, entry_at, data_at, row_record}
use Rattle.rmt_pack.specs.declared.head.Head.{Head}
use Rattle.rmt_pack.specs.declared.shape.Shape.{Shape}
use Rattle.rmt_pack.specs.Head.{head_of}
use Rattle.rmt_pack.specs.Shape.{is_exact, cells_in}

-- ---- what a cell has

-- the place of a cell of an exact part
abbrev pub place_of : Shape → ℕ → Cell
place_of s n = cell_of (1024 * s.quanta) s.per n

-- the entry of a cell of an exact part: a head of 8 bits, and the key above it
abbrev pub entry_of : Blocks → Shape → ℕ → ℕ
entry_of sram s n = entry_at sram s.keys s.width s.key (place_of s n)

-- the record of a cell of an exact part, or of a row of a ternary one
abbrev pub record_of : Blocks → Shape → ℕ → ℕ
record_of sram s n =
    if is_exact s then data_at sram s.records s.per s.held (place_of s n) else row_record sram s.records (s.held - 8) n

-- a cell has this head, and a key of these bytes
pub record HoldsCell (sram : Blocks) (s : Shape) (n : ℕ) (says : Head) (bytes : List ℕ) : Type 0 where
  pub head : head_of (entry_of sram s n % 256) ≡ says
  pub key : bytes_of (divided_up s.key 8) (entry_of sram s n / 256) ≡ bytes

-- a cell or row has a record of these bytes
abbrev pub HoldsRecord : Blocks → Shape → ℕ → List ℕ → Type 0
HoldsRecord sram s n bytes = bytes_of (divided_up s.held 8) (record_of sram s n) ≡ bytes

-- ---- what stays

abbrev pub OtherEntriesStay : Blocks → Blocks → Shape → ℕ → Type 0
OtherEntriesStay old new s n = (m : ℕ) → m < cells_in s → m ≢ n → entry_of new s m ≡ entry_of old s m

abbrev pub OtherRecordsStay : Blocks → Blocks → Shape → ℕ → Type 0
OtherRecordsStay old new s n = (m : ℕ) → m < cells_in s → m ≢ n → record_of new s m ≡ record_of old s m

abbrev pub EntriesStay : Blocks → Blocks → Shape → Type 0
EntriesStay old new s = (m : ℕ) → m < cells_in s → entry_of new s m ≡ entry_of old s m

abbrev pub RecordsStay : Blocks → Blocks → Shape → Type 0
RecordsStay old new s = (m : ℕ) → m < cells_in s → record_of new s m ≡ record_of old s m

-- ---- what is written

-- x stands in place of the bits from low to low + len - 1 of a row of these blocks side by side; all other bits of all blocks stay
pub record PutsBits (old new : Blocks) (row : ℕ) (blocks : List ℕ) (low len x : ℕ) : Type 0 where
  pub here : unit_row 112 new row blocks ≡ deposit (unit_row 112 old row blocks) low len x
  pub elsewhere : (b r : ℕ) → (r ≡ row → Contains blocks b → ⊥) → new b r ≡ old b r

-- x stands in place of the entry of a cell
abbrev pub PutsEntry : Blocks → Blocks → Shape → ℕ → ℕ → Type 0
PutsEntry old new s n x =
    let c = place_of s n in
    PutsBits old new (c.row % 1024) (blocks_at s.keys s.width (c.row / 1024 * 4 + c.way)) (c.position * (s.key + 8)) (s.key + 8) x

-- the quantum of a cell or row, its number there, and how many times 1,024 of them a quantum has
abbrev pub quantum_in : Shape → ℕ → ℕ
quantum_in s n = if is_exact s then (place_of s n).row / 1024 else n / 2048

abbrev pub index_in : Shape → ℕ → ℕ
index_in s n = if is_exact s then local_index s.per (place_of s n) else n % 2048

abbrev pub thousands_in : Shape → ℕ
thousands_in s = if is_exact s then 4 * s.per else 2

-- x stands in place of the record of a cell or row
abbrev pub PutsRecord : Blocks → Blocks → Shape → ℕ → ℕ → Type 0
PutsRecord old new s n x =
    let q = records_a_row s.held in
    let i = index_in s n in
    let unit = quantum_in s n * record_units (thousands_in s) s.held + i / (1024 * q) in
    PutsBits old new (i % (1024 * q) / q) (blocks_at s.records (record_width s.held) unit) (i % q * s.held) s.held x
