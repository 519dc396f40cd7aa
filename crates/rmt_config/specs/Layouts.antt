-- Where the entries of a layout stand in its blocks, and which of their bits may be set.
use Rattle.std.specs.Prelude.{◌≡◌, ℕ, ◌+◌, ◌*◌, ◌/◌, ◌%◌, ◌^◌, ◌<◌, ◌≤◌, List, length, slice_index, Bool, ◌&&◌, nat_lt, IsTrue, All, map}
use Rattle.std.specs.List.{list_all}
use Rattle.std.specs.Int.{bit_at}
use Rattle.rmt_config.specs.Order.{rises_from}
use Rattle.rmt_config.specs.CellForm.{head_is_formed}
use Rattle.rmt_bits.specs.Bits.{slice}
use Rattle.rmt_config.specs.declared.form.layout.CellLayout.{CellLayout}
use Rattle.rmt_config.specs.Types.{Stage, SramRow, TcamRow, SlotUnit, CellNumber, Memory}
use Rattle.rmt_config.specs.Cells.{Blocks, unit_row, blocks_at, sram_row}
use Rattle.rmt_config.specs.StageForm.{is_listed, srow_number, trow_number}
use Rattle.rmt_config.specs.LaneForm.{bits_of_lanes}
use Rattle.rmt_config.specs.BlockCounts.{divided_up, record_width, records_a_row, record_units}
use Rattle.rmt_config.specs.declared.config.Memory.TheVariants.{Without, Exact, Ternary}

-- ---- a cell by its quantum and its number in it

-- the number of a cell in the memory
abbrev pub number_in : CellLayout → ℕ → ℕ → ℕ
number_in l quantum i = (i / l.way * l.quanta + quantum) * l.way + i % l.way

-- and back
abbrev pub quantum_of : CellLayout → ℕ → ℕ
quantum_of l n = n / l.way % l.quanta

abbrev pub local_of : CellLayout → ℕ → ℕ
local_of l n = n / l.way / l.quanta * l.way + n % l.way

-- ---- a cell by its unit, the row there, and its position in the row

abbrev pub unit_of : CellLayout → ℕ → ℕ → ℕ
unit_of l quantum i = quantum * l.units + i / (l.rows * l.per)

abbrev pub row_of : CellLayout → ℕ → ℕ
row_of l i = i % (l.rows * l.per) / l.per

abbrev pub position_of : CellLayout → ℕ → ℕ
position_of l i = i % l.per

-- the number in its quantum of what stands there
abbrev pub index_in : CellLayout → ℕ → ℕ → ℕ → ℕ
index_in l unit row position = (unit % l.units * l.rows + row) * l.per + position

-- the entry of a cell
abbrev pub entry_in : CellLayout → Blocks → List ℕ → ℕ → ℕ → ℕ
entry_in l held blocks quantum i =
    slice (unit_row l.bits held (row_of l i) (blocks_at blocks l.side (unit_of l quantum i))) (position_of l i * l.entry) l.entry

-- ---- bits that may be set

-- the cells that a slot lists
abbrev pub listed_cells : List CellNumber → List ℕ
listed_cells numbers = map (λ (n : CellNumber). n.cell) numbers

-- what stands at a position of a row of a unit is an entry of a cell that is listed
abbrev pub is_told : CellLayout → List ℕ → ℕ → ℕ → ℕ → Bool
is_told l cells unit row position =
    nat_lt position l.per && nat_lt (index_in l unit row position) (l.ways * l.way)
    && is_listed (number_in l (unit / l.units) (index_in l unit row position)) cells

-- so does each bit that is set in a row of the block at a place in a unit
abbrev pub RowTold : CellLayout → List ℕ → ℕ → ℕ → ℕ → ℕ → Type 0
RowTold l cells unit place row bits =
    (t : ℕ) → t < l.bits → bit_at bits t ≡ 1 → IsTrue (is_told l cells unit row ((place * l.bits + t) / l.entry))

-- and in each row of each block of a list
abbrev pub BlocksTold : {X : Type 0} → CellLayout → (X → ℕ) → (X → ℕ) → (X → ℕ) → List ℕ → List X → List ℕ → Type 0
BlocksTold l block row bits cells rows blocks =
    (j : ℕ) → j < length blocks → All (λ x. block x ≡ slice_index blocks j → RowTold l cells (j / l.side) (j % l.side) (row x) (bits x)) rows

-- a layout that a memory may have
pub record IsLayout (l : CellLayout) : Type 0 where
  pub some_bits : 0 < l.bits
  pub some_rows : 0 < l.rows
  pub some_side : 0 < l.side
  pub some_entry : 0 < l.entry
  pub some_per : 0 < l.per
  pub some_units : 0 < l.units
  pub some_way : 0 < l.way
  pub some_quanta : 0 < l.quanta
  pub fits : l.per * l.entry ≤ l.bits * l.side
  pub enough : l.ways * l.way ≤ l.units * (l.rows * l.per)
  pub most_bits : l.bits ≤ 112
  pub most_rows : l.rows ≤ 2048
  pub most_side : l.side ≤ 1024
  pub most_entry : l.entry < 2 ^ 17
  pub most_per : l.per < 2 ^ 16
  pub most_units : l.units < 2 ^ 18
  pub most_way : l.way < 2 ^ 26
  pub most_ways : l.ways ≤ 4
  pub most_quanta : l.quanta ≤ 106

-- ---- the layouts of a memory

-- the entries of an exact part, with a head of 8 bits and a key of that many, in units k blocks wide with p of them a row
abbrev pub exact_keys : ℕ → ℕ → ℕ → ℕ → CellLayout
exact_keys k p d bits = record {
  bits = 112;
  rows = 1024;
  side = k;
  entry = bits + 8;
  per = p;
  units = 4;
  way = 1024 * p;
  ways = 4;
  quanta = d;
}

-- records of n bits of t times 1,024 cells a quantum, in that many ways of so many cells
abbrev pub records_of : ℕ → ℕ → ℕ → ℕ → ℕ → CellLayout
records_of t way ways d n = record {
  bits = 112;
  rows = 1024;
  side = record_width n;
  entry = n;
  per = records_a_row n;
  units = record_units t n;
  way = way;
  ways = ways;
  quanta = d;
}

-- the records of an exact part, of n bits
abbrev pub exact_records : ℕ → ℕ → ℕ → CellLayout
exact_records p d n = records_of (4 * p) (1024 * p) 4 d n

-- the keys of a ternary part, of that many bits
abbrev pub ternary_keys : ℕ → ℕ → CellLayout
ternary_keys d bits = record {
  bits = 40;
  rows = 2048;
  side = divided_up bits 40;
  entry = bits;
  per = 1;
  units = 1;
  way = 2048;
  ways = 1;
  quanta = d;
}

-- the records of a ternary part, of n bits
abbrev pub ternary_records : ℕ → ℕ → CellLayout
ternary_records d n = records_of 2 2048 1 d n

-- the bits that are set in the rows of a stage stand in entries of listed cells
abbrev pub SramTold : CellLayout → Stage → SlotUnit → List ℕ → Type 0
SramTold l stage s blocks =
    BlocksTold l (λ r. srow_number r / l.rows) (λ r. srow_number r % l.rows) (λ (r : SramRow). r.bits) (listed_cells s.numbers) stage.srows blocks

abbrev pub TcamTold : CellLayout → Stage → SlotUnit → List ℕ → Type 0
TcamTold l stage s blocks =
    BlocksTold l (λ r. trow_number r / l.rows) (λ r. trow_number r % l.rows) (λ (r : TcamRow). r.mask) (listed_cells s.numbers) stage.trows blocks

-- so do those of all blocks of a memory
abbrev pub MemoryTold : Stage → SlotUnit → Memory → Type 0
MemoryTold stage s Without = Unit {0}
MemoryTold stage s (Exact k p d w ks rs cs) =
    SramTold (exact_keys k p d (bits_of_lanes s.keys)) stage s ks × SramTold (exact_records p d s.held) stage s rs
MemoryTold stage s (Ternary d ks rs cs) =
    TcamTold (ternary_keys d (bits_of_lanes s.keys)) stage s ks × SramTold (ternary_records d (s.held + 8)) stage s rs

-- the heads of cells are formed
abbrev pub heads_hold : CellLayout → Blocks → List ℕ → ℕ → ℕ → ℕ → List ℕ → Bool
heads_hold l sram blocks visible first actions cells =
    list_all (λ n. head_is_formed visible first actions (entry_in l sram blocks (quantum_of l n) (local_of l n) % 256)) cells

-- the listed cells of a layout whose entries begin with a head: they rise, they are cells of the memory, and their heads are formed
abbrev pub cells_hold : CellLayout → Blocks → List ℕ → ℕ → ℕ → ℕ → List CellNumber → Bool
cells_hold l sram blocks visible first actions numbers =
    rises_from 0 (listed_cells numbers) && list_all (λ n. nat_lt n (l.ways * l.quanta * l.way)) (listed_cells numbers)
    && heads_hold l sram blocks visible first actions (listed_cells numbers)

-- the entries of listed cells begin with heads, and no bit outside them is set
abbrev pub EntriesHeld : Stage → SlotUnit → ℕ → ℕ → CellLayout → List ℕ → Type 0
EntriesHeld stage s visible first l blocks = IsTrue (cells_hold l (sram_row stage.srows) blocks visible first s.actions s.numbers) × SramTold l stage s blocks

-- what an exact part holds: its entries, and records of no other cells
abbrev pub ExactHeld : Stage → SlotUnit → ℕ → ℕ → ℕ → ℕ → ℕ → List ℕ → List ℕ → Type 0
ExactHeld stage s visible first k p d ks rs =
    EntriesHeld stage s visible first (exact_keys k p d (bits_of_lanes s.keys)) ks × SramTold (exact_records p d s.held) stage s rs

-- what a ternary part holds: records with heads, and keys of no other cells
abbrev pub TernaryHeld : Stage → SlotUnit → ℕ → ℕ → ℕ → List ℕ → List ℕ → Type 0
TernaryHeld stage s visible first d ks rs = EntriesHeld stage s visible first (ternary_records d (s.held + 8)) rs × TcamTold (ternary_keys d (bits_of_lanes s.keys)) stage s ks

-- a layout in SRAM, whose blocks have 1,024 rows of 112 bits
pub record IsInSram (l : CellLayout) : Type 0 where
  pub is : IsLayout l
  pub in_sram : l.bits ≡ 112
  pub in_blocks : l.rows ≡ 1024

-- a layout in SRAM whose entries begin with a head of 8 bits
pub record HasHeads (l : CellLayout) : Type 0 where
  pub is : IsLayout l
  pub in_sram : l.bits ≡ 112
  pub in_blocks : l.rows ≡ 1024
  pub head : 8 ≤ l.entry
