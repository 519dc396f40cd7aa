-- The cells of a slot's memory: what stands in each, read from the rows of its blocks, and which of them a key hits.
use Rattle.std.specs.Prelude.{ℕ, ◌+◌, ◌*◌, ◌-◌, ◌/◌, ◌%◌, ◌^◌, List, [], ◌∷◌, Bool, ◌&&◌, ◌==◌, bit_and, Option, find, take, drop, option_map, unwrap_or}
use Rattle.std.specs.List.{flat_map, range_with_len}
use Rattle.rmt_bits.specs.Bits.{slice, bytes_of}
use Rattle.rmt_bits.specs.Hash.{hash_row}
use Rattle.rmt_config.specs.Types.{Stage, SramRow, TcamRow, SlotUnit, CellNumber, Memory}
use Rattle.rmt_config.specs.declared.config.Memory.TheVariants.{Without, Exact, Ternary}
use Rattle.rmt_config.specs.LaneForm.{bits_of_lanes}
use Rattle.rmt_config.specs.BlockCounts.{divided_up, record_width, records_a_row, record_units}

-- ---- rows of blocks

-- what the rows of blocks hold, by block and row
abbrev pub Blocks : Type 0
Blocks = ℕ → ℕ → ℕ

-- a row of an SRAM block; one that isn't listed is 0
abbrev pub sram_row : List SramRow → Blocks
sram_row rows block row = unwrap_or (option_map (λ (r : SramRow). r.bits) (find (λ (r : SramRow). (r.block == block) && (r.row == row)) rows)) 0

-- a part of a row of a TCAM block, its value or its mask; one that isn't listed is 0
abbrev pub tcam_row : (TcamRow → ℕ) → List TcamRow → Blocks
tcam_row part rows block row = unwrap_or (option_map part (find (λ (r : TcamRow). (r.block == block) && (r.row == row)) rows)) 0

-- a row of blocks side by side, each of that many bits, the first lowest
abbrev pub unit_row : ℕ → Blocks → ℕ → List ℕ → ℕ
unit_row size held row [] = 0
unit_row size held row (block ∷ blocks) = held block row + 2 ^ size * unit_row size held row blocks

-- the blocks of a unit, where all units of a list have that many
abbrev pub blocks_at : List ℕ → ℕ → ℕ → List ℕ
blocks_at blocks each unit = take each (drop (unit * each) blocks)

-- record i of a quantum that has that many times 1,024 cells, n bits each
abbrev pub record_at : Blocks → List ℕ → ℕ → ℕ → ℕ → ℕ → ℕ
record_at sram records thousands n quantum i =
    let q = records_a_row n in
    slice (unit_row 112 sram (i % (1024 * q) / q) (blocks_at records (record_width n) (quantum * record_units thousands n + i / (1024 * q)))) (i % q * n) n

-- ---- where a cell lies

-- the place of a cell of an exact part: its way, its row in the way, and its position in the row
pub record Cell : Type 0 where
  pub way : ℕ
  pub row : ℕ
  pub position : ℕ

-- the number of a cell, where a way has that many rows, and a row that many cells
abbrev pub index_of : ℕ → ℕ → Cell → ℕ
index_of rows per c = (c.way * rows + c.row) * per + c.position

-- the cell of a number
abbrev pub cell_of : ℕ → ℕ → ℕ → Cell
cell_of rows per n = record { way = n / per / rows; row = n / per % rows; position = n % per }

-- the number of a cell in its quantum, which has 1,024 rows of each way
abbrev pub local_index : ℕ → Cell → ℕ
local_index per c = (c.way * 1024 + c.row % 1024) * per + c.position

-- how many cells a memory has
abbrev pub cells_in : Memory → ℕ
cells_in Without = 0
cells_in (Exact k per quanta first_way keys records counters) = 4096 * quanta * per
cells_in (Ternary quanta keys records counters) = 2048 * quanta

-- ---- what a cell holds

-- the head, the key with the mask of the bits that count, and the data
pub record Content : Type 0 where
  pub head : ℕ
  pub key : ℕ
  pub mask : ℕ
  pub held : ℕ

-- the entry of a cell of an exact part, a head of 8 bits and a key of that many, in units of k blocks that stand by quantum and way
abbrev pub entry_at : Blocks → List ℕ → ℕ → ℕ → Cell → ℕ
entry_at sram keys k bits c =
    slice (unit_row 112 sram (c.row % 1024) (blocks_at keys k (c.row / 1024 * 4 + c.way))) (c.position * (bits + 8)) (bits + 8)

-- the data of a cell of an exact part; data of no bits is 0
abbrev pub data_at : Blocks → List ℕ → ℕ → ℕ → Cell → ℕ
data_at sram records per held c = record_at sram records (4 * per) held (c.row / 1024) (local_index per c)

-- the head of 8 bits and the data of a row of a ternary part
abbrev pub row_record : Blocks → List ℕ → ℕ → ℕ → ℕ
row_record sram records held r = record_at sram records 2 (held + 8) (r / 2048) (r % 2048)

-- the value or the mask of a row of a ternary part, whose key has that many bits
abbrev pub row_key : Blocks → List ℕ → ℕ → ℕ → ℕ
row_key tcam keys bits r = unit_row 40 tcam (r % 2048) (blocks_at keys (divided_up bits 40) (r / 2048))

-- what a cell of an exact part holds; all bits of its key count
abbrev pub exact_content : Blocks → SlotUnit → ℕ → ℕ → List ℕ → List ℕ → Cell → Content
exact_content sram slot k per keys records c =
    let bits = bits_of_lanes slot.keys in
    let entry = entry_at sram keys k bits c in
    record { head = entry % 256; key = entry / 256; mask = 2 ^ bits - 1; held = data_at sram records per slot.held c }

-- what a row of a ternary part holds
abbrev pub ternary_content : Stage → SlotUnit → List ℕ → List ℕ → ℕ → Content
ternary_content stage slot keys records n =
    let bits = bits_of_lanes slot.keys in
    let r = row_record (sram_row stage.srows) records slot.held n in
    record {
      head = r % 256;
      key = row_key (tcam_row (λ t. t.value) stage.trows) keys bits n;
      mask = row_key (tcam_row (λ t. t.mask) stage.trows) keys bits n;
      held = r / 256;
    }

-- what cell n of a slot of a stage holds
abbrev pub content_of : Stage → SlotUnit → ℕ → Content
content_of stage slot n = content slot.memory
  where
    content : Memory → Content
    content Without = record { head = 0; key = 0; mask = 0; held = 0 }
    content (Exact k per quanta first_way keys records counters) =
        exact_content (sram_row stage.srows) slot k per keys records (cell_of (1024 * quanta) per n)
    content (Ternary quanta keys records counters) = ternary_content stage slot keys records n

-- what a head says: bit 0 that the cell is occupied, bits 1 and 2 when it is seen, and bits 3 to 7 the number of an instruction in the stage
abbrev pub is_occupied : ℕ → Bool
is_occupied head = head % 2 == 1

abbrev pub visible_bits : ℕ → ℕ
visible_bits head = slice head 1 2

abbrev pub code_of : ℕ → ℕ
code_of head = slice head 3 5

-- each occupied cell is seen
abbrev pub is_seen : ℕ → Bool
is_seen head = is_occupied head

-- ---- the look-up

-- the row of a key of that many bits in a way of a part whose first way has this number
abbrev pub key_row : ℕ → ℕ → ℕ → ℕ → ℕ → ℕ → ℕ
key_row seed first_way quanta bits key way = hash_row seed (first_way + way) (bytes_of (divided_up bits 8) key) (1024 * quanta)

-- the numbers of the cells in which a key may stand, rising: those of its row in each of the four ways of an exact part, and every row of a ternary one
abbrev pub candidates : ℕ → ℕ → Memory → ℕ → List ℕ
candidates seed bits Without key = []
candidates seed bits (Exact k per quanta first_way keys records counters) key =
    flat_map (λ way. range_with_len (index_of (1024 * quanta) per (record { way = way; row = key_row seed first_way quanta bits key way; position = 0 })) per) (range_with_len 0 4)
candidates seed bits (Ternary quanta keys records counters) key = range_with_len 0 (2048 * quanta)

-- a cell that is seen and agrees with a key on its mask
abbrev pub has_key : ℕ → Content → Bool
has_key key c = is_seen c.head && (bit_and key c.mask == c.key)

-- the entry number of a cell
abbrev pub number_of_cell : List CellNumber → ℕ → ℕ
number_of_cell numbers cell = unwrap_or (option_map (λ (c : CellNumber). c.number) (find (λ (c : CellNumber). c.cell == cell) numbers)) 0

-- what a look-up finds: the instruction's number in the stage, the entry's data, and its number
pub record Found : Type 0 where
  pub code : ℕ
  pub held : ℕ
  pub number : ℕ

abbrev pub found_in : List CellNumber → ℕ → Content → Found
found_in numbers n c = record { code = code_of c.head; held = c.held; number = number_of_cell numbers n }

-- what a key finds in a slot of a stage under a seed: the cell of least number that has it
abbrev pub look_up : ℕ → Stage → SlotUnit → ℕ → Option Found
look_up seed stage slot key =
    option_map (λ n. found_in slot.numbers n (content_of stage slot n))
    (find (λ n. has_key key (content_of stage slot n)) (candidates seed (bits_of_lanes slot.keys) slot.memory key))
