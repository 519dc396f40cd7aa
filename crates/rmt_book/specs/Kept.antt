-- A cell with an entry, as a book keeps it, against what the cell holds.
use Rattle.std.specs.Prelude.{◌≡◌, ℕ, ◌/◌, ◌%◌, List, length}
use Rattle.rmt_bits.specs.Bits.{number_of}
use Rattle.rmt_config.specs.declared.config.CellNumber.{CellNumber}
use Rattle.rmt_config.specs.declared.config.Memory.{Memory}
use Rattle.rmt_config.specs.declared.config.Memory.TheVariants.{Without, Exact, Ternary}
use Rattle.rmt_config.specs.declared.config.SlotUnit.{SlotUnit}
use Rattle.rmt_config.specs.Cells.{Content}
use Rattle.rmt_config.specs.LaneForm.{bits_of_lanes}
use Rattle.rmt_config.specs.RunCells.{written_mask}
use Rattle.rmt_config.specs.BlockCounts.{divided_up}
use Rattle.rmt_book.specs.declared.kept.Kept.{Kept}

-- a cell of a memory with a key of that many bits holds this, and has that number
pub record IsKept (bits : ℕ) (m : Memory) (x : Content) (n : CellNumber) (k : Kept) : Type 0 where
  pub cell : k.cell ≡ n.cell
  pub number : k.number ≡ n.number
  pub visible : k.visible ≡ x.head / 2 % 4
  pub code : k.code ≡ x.head / 8
  pub key : number_of k.key.items ≡ x.key
  pub mask : written_mask bits m k.mask.items ≡ x.mask
  pub held : number_of k.held.items ≡ x.held

-- how many bytes the masks of a memory have whose keys have that many bits; an exact one has no masks
abbrev pub mask_bytes : ℕ → Memory → ℕ
mask_bytes bits Without = 0
mask_bytes bits (Exact k per quanta first_way keys records counters) = 0
mask_bytes bits (Ternary quanta keys records counters) = divided_up bits 8

-- bytes of a key, of a mask and of data are as many as those of a slot
pub record AreBytesOf (slot : SlotUnit) (k m h : List ℕ) : Type 0 where
  pub key : length k ≡ divided_up (bits_of_lanes slot.keys) 8
  pub mask : length m ≡ mask_bytes (bits_of_lanes slot.keys) slot.memory
  pub held : length h ≡ divided_up slot.held 8

abbrev pub HasBytes : SlotUnit → Kept → Type 0
HasBytes slot k = AreBytesOf slot k.key.items k.mask.items k.held.items
