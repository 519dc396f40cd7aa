-- How the cells of a part lie, as a book keeps it, against the memory of the part's slot.
use Rattle.std.specs.Prelude.{◌≡◌, ◌<◌, ◌≤◌, ℕ, ◌+◌, ◌*◌, ◌^◌, List}
use Rattle.std.specs.List.{flat_map, range_with_len}
use Rattle.rmt_bits.specs.Hash.{hash_row}
use Rattle.rmt_config.specs.declared.config.Memory.{Memory}
use Rattle.rmt_config.specs.declared.config.SlotUnit.{SlotUnit}
use Rattle.rmt_config.specs.declared.config.Memory.TheVariants.{Without, Exact, Ternary}
use Rattle.rmt_config.specs.Cells.{index_of}
use Rattle.rmt_config.specs.LaneForm.{bits_of_lanes}
use Rattle.rmt_book.specs.declared.grid.Grid.{Grid}
use Rattle.rmt_book.specs.declared.grid.Grid.TheVariants.{Ways, Rows}
use Rattle.rmt_book.specs.declared.shape.PartShape.{PartShape}

-- a memory with cells, so few that each has a number of 32 bits, and whose ways have numbers of a byte
abbrev pub HasFewCells : Memory → Type 0
HasFewCells Without = ⊥
HasFewCells (Exact k per quanta first_way keys records counters) = (first_way + 3 < 256) × (1 ≤ quanta) × (4096 * quanta * per < 2 ^ 32)
HasFewCells (Ternary quanta keys records counters) = Unit {0}

-- the cells of a memory lie so
abbrev pub IsGrid : Memory → Grid → Type 0
IsGrid Without g = ⊥
IsGrid (Exact k per quanta first_way keys records counters) (Ways w) = (w.first ≡ first_way) × (w.rows ≡ 1024 * quanta) × (w.per ≡ per)
IsGrid (Exact k per quanta first_way keys records counters) (Rows rows) = ⊥
IsGrid (Ternary quanta keys records counters) (Ways w) = ⊥
IsGrid (Ternary quanta keys records counters) (Rows rows) = rows ≡ 2048 * quanta

-- a slot has keys of so many bits, entries with so many bits of data, and its cells lie so
pub record IsShape (slot : SlotUnit) (s : PartShape) : Type 0 where
  pub bits : s.bits ≡ bits_of_lanes slot.keys
  pub held : s.held ≡ slot.held
  pub grid : IsGrid slot.memory s.grid

-- how many cells there are
abbrev pub cell_count : Grid → ℕ
cell_count (Ways w) = 4 * (w.rows * w.per)
cell_count (Rows rows) = rows

-- the cells of the row that the bytes of a key have in a way, where the first way of the part has this number
abbrev pub row_cells : ℕ → List ℕ → ℕ → ℕ → ℕ → ℕ → List ℕ
row_cells seed key first rows per way = range_with_len (index_of rows per (record { way = way; row = hash_row seed (first + way) key rows; position = 0 })) per

-- the cells in which a key of these bytes may stand: those of its four rows, or all rows
abbrev pub cells_for : ℕ → List ℕ → Grid → List ℕ
cells_for seed key (Ways w) = flat_map (row_cells seed key w.first w.rows w.per) (range_with_len 0 4)
cells_for seed key (Rows rows) = range_with_len 0 rows
