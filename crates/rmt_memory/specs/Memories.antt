-- The memory of a slot, with room for each of its cells, against what the cells hold.
use Rattle.std.specs.Prelude.{◌≡◌, ℕ, ◌-◌, ◌*◌, ◌^◌, ◌<◌, List, ◌∷◌, ◌++◌, length, map, Bool, true, false, ◌&&◌, ◌==◌, IsTrue, All, Option, Some, None, slice_index, if◌then◌else◌}
use Rattle.std.specs.List.{range_with_len}
use Rattle.rmt_bits.specs.Bits.{bytes_of, number_of}
use Rattle.rmt_bits.specs.Grouping.{Compared}
use Rattle.rmt_memory.specs.Types.{Stage, Unit as ChipUnit, SlotUnit, CellNumber, Memory}
use Rattle.rmt_config.specs.declared.config.Unit.TheVariants.{Gate, Slot}
use Rattle.rmt_config.specs.declared.config.Memory.TheVariants.{Without, Exact, Ternary}
use Rattle.rmt_config.specs.LaneForm.{bits_of_lanes}
use Rattle.rmt_config.specs.Order.{rises_from}
use Rattle.rmt_config.specs.BlockCounts.{divided_up}
use Rattle.rmt_config.specs.Cells.{Content, cells_in, is_occupied}
use Rattle.rmt_config.specs.UnitForm.{slot_is_formed}
use Rattle.rmt_config.specs.CellForm.{SlotHolds}
use Rattle.rmt_config.specs.KeysSeen.{WaysLow}
use Rattle.rmt_config.specs.MemoryRules.{FormedRows}
use Rattle.rmt_config.specs.PrefixRow.{PrefixRows}
use Rattle.rmt_memory.specs.declared.memory.SlotMemory.{SlotMemory}
use Rattle.rmt_memory.specs.declared.keys.Keys.{Keys}
use Rattle.rmt_memory.specs.declared.keys.Keys.TheVariants.{Nothing, InCells, InVectors}
use Rattle.rmt_memory.specs.Laying.{number_bytes}
use Rattle.rmt_memory.specs.Searching.{FirstIn, FirstByWays, run_of}
use Rattle.rmt_memory.specs.KeyWords.{words_of, words_of_key}
use Rattle.rmt_memory.specs.Slicing.{HasRow, StandsFor}
use Rattle.rmt_memory.specs.Sights.{seen_by}

-- ---- what is asked of a slot

-- a slot of a stage that keeps the rules of form, whatever visible bits its occupied cells have
pub record SlotFormed (stage : Stage) (slot : SlotUnit) : Type 0 where
  pub rows : FormedRows stage
  pub values : PrefixRows stage.trows
  pub form : slot_is_formed slot ≡ true
  pub visible : ℕ
  pub first : ℕ
  pub holds : SlotHolds visible stage first slot
  pub ways : WaysLow slot.memory

-- a unit of a stage, where it is a slot
abbrev pub UnitFormed : Stage → ChipUnit → Type 0
UnitFormed stage (Gate g) = Unit {0}
UnitFormed stage (Slot s) = SlotFormed stage s

-- the listed cells of a slot rise, and are cells of a memory that has that many
pub record NumbersFit (slot : SlotUnit) (count : ℕ) : Type 0 where
  pub rise : rises_from 0 (map (λ (n : CellNumber). n.cell) slot.numbers) ≡ true
  pub below : All (λ (n : CellNumber). n.cell < count) slot.numbers
  pub few : length slot.numbers < 2 ^ 32

-- ---- room

-- how many bytes a key has, and the data of an entry
abbrev pub key_size : SlotMemory → ℕ
key_size m = m.key_size

abbrev pub held_size : SlotMemory → ℕ
held_size m = m.held_size

-- the keys of that many bits stand where the kind of a memory has them: in the cells, by the rows of its ways, or in vectors
abbrev pub keys_fit : ℕ → Memory → ℕ → Keys → Bool
keys_fit bits Without stored Nothing = true
keys_fit bits Without stored (InCells ways) = false
keys_fit bits Without stored (InVectors v) = false
keys_fit bits (Exact k p d w ks rs cs) stored Nothing = false
keys_fit bits (Exact k p d w ks rs cs) stored (InCells ways) =
    (ways.first == w) && (ways.rows == 1024 * d) && (ways.per == p) && (stored == divided_up bits 8)
keys_fit bits (Exact k p d w ks rs cs) stored (InVectors v) = false
keys_fit bits (Ternary d ks rs cs) stored Nothing = false
keys_fit bits (Ternary d ks rs cs) stored (InCells ways) = false
keys_fit bits (Ternary d ks rs cs) stored (InVectors v) = (v.words == divided_up bits 40) && (stored == 0)

-- a memory has room for each cell of a slot
pub record FitsSlot (slot : SlotUnit) (m : SlotMemory) : Type 0 where
  pub key : key_size m ≡ divided_up (bits_of_lanes slot.keys) 8
  pub held : held_size m ≡ divided_up slot.held 8
  pub cells : m.cells.count ≡ cells_in slot.memory
  pub numbers : slot.counted ≡ true → 0 < cells_in slot.memory → m.number_size ≡ 4
  pub keys : IsTrue (keys_fit (bits_of_lanes slot.keys) slot.memory m.stored m.keys)

-- ---- what cells hold

-- the bytes of a cell: its head, its key in that many bytes, its data in that many, and that many of the number of its entry; each highest first
abbrev pub cell_bytes : ℕ → ℕ → ℕ → Content → ℕ → List ℕ
cell_bytes key held tail c entry = c.head ∷ (bytes_of key c.key ++ (bytes_of held c.held ++ number_bytes tail entry))

-- the key and the mask of an occupied cell have the bits that the slot's keys have
abbrev pub KeyFits : ℕ → Memory → Content → Type 0
KeyFits bits Without c = Unit {0}
KeyFits bits (Exact k p d w ks rs cs) c = (c.key < 2 ^ bits) × (c.mask ≡ 2 ^ bits - 1)
KeyFits bits (Ternary d ks rs cs) c = c.key < 2 ^ (40 * divided_up bits 40)

-- a memory holds an occupied cell
pub record HoldsEntry (slot : SlotUnit) (c : Content) (entry n : ℕ) (m : SlotMemory) : Type 0 where
  pub bytes : run_of m.cells n ≡ cell_bytes m.stored m.held_size m.number_size c entry
  pub key : KeyFits (bits_of_lanes slot.keys) slot.memory c
  pub held : c.held < 2 ^ slot.held
  pub number : entry < 2 ^ 32

-- of a cell that isn't occupied it tells no more than that
pub record HoldsCell (slot : SlotUnit) (c : Content) (number n : ℕ) (m : SlotMemory) : Type 0 where
  pub occupied : is_occupied (slice_index (run_of m.cells n) 0) ≡ is_occupied c.head
  pub entry : is_occupied c.head ≡ true → HoldsEntry slot c number n m

-- what a cell of a ternary part compares, in that many words
abbrev pub compared_of : ℕ → Content → Compared
compared_of count c = record { masks = words_of count c.mask; values = words_of count c.key }

-- the rows that a sight shows, of that many
abbrev pub rows_seen : ℕ → ℕ → (ℕ → Content) → ℕ → List (Option Compared)
rows_seen sight words content count =
    map (λ n. if seen_by sight (content n).head then Some (compared_of words (content n)) else None) (range_with_len 0 count)

-- the vectors of a ternary part stand for what its rows compare
abbrev pub VectorsHold : ℕ → ℕ → (ℕ → Content) → Keys → Type 0
VectorsHold words count content Nothing = Unit {0}
VectorsHold words count content (InCells ways) = Unit {0}
VectorsHold words count content (InVectors v) = (sight : ℕ) → sight < 3 → StandsFor sight (rows_seen sight words content count) v

-- a memory holds all cells of a slot
pub record HoldsSlot (content : ℕ → Content) (number : ℕ → ℕ) (slot : SlotUnit) (m : SlotMemory) : Type 0 where
  pub fits : FitsSlot slot m
  pub each : (n : ℕ) → n < cells_in slot.memory → HoldsCell slot (content n) (number n) n m
  pub vectors : VectorsHold (divided_up (bits_of_lanes slot.keys) 40) (cells_in slot.memory) content m.keys

-- ---- the search

-- where a key is found
abbrev pub PlacesIn : SlotMemory → Keys → ℕ → ℕ → List ℕ → Option ℕ → Type 0
PlacesIn m Nothing seed sight key found = found ≡ None
PlacesIn m (InCells ways) seed sight key found = FirstByWays ways m.cells seed sight key found
PlacesIn m (InVectors v) seed sight key found =
    (rows : List (Option Compared)) → StandsFor sight rows v → FirstIn (HasRow (words_of_key (number_of key)) rows) 0 (length rows) found

abbrev pub Places : SlotMemory → ℕ → ℕ → List ℕ → Option ℕ → Type 0
Places m seed sight key found = PlacesIn m m.keys seed sight key found
