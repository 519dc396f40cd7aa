-- The rules of form of what memory holds: cells that are occupied, as the numbers of a slot list them, and zeros.
use Rattle.std.specs.Prelude.{◌≡◌, ℕ, ◌+◌, ◌*◌, ◌^◌, ◌<◌, ◌≤◌, List, [], ◌∷◌, map, Bool, true, not, ◌&&◌, ◌==◌, nat_lt, nat_le, IsTrue, All}
use Rattle.std.specs.List.{flat_map, list_all, list_any}
use Rattle.rmt_config.specs.Types.{Config, Stage, Unit, SlotUnit, CellNumber, Memory}
use Rattle.rmt_config.specs.declared.config.Unit.TheVariants.{Gate, Slot}
use Rattle.rmt_config.specs.declared.config.Memory.TheVariants.{Without, Exact, Ternary}
use Rattle.rmt_config.specs.Order.{rises_from, are_new}
use Rattle.rmt_config.specs.LaneForm.{bits_of_lanes}
use Rattle.rmt_config.specs.BlockCounts.{divided_up, record_width, records_a_row, record_units}
use Rattle.rmt_config.specs.Cells.{Blocks, sram_row, tcam_row, unit_row, blocks_at, record_at, Content, content_of, cells_in, is_occupied, visible_bits, code_of}

-- ---- occupied cells

-- the head of an occupied cell that has these visible bits and runs one of that many instructions, of which the first has this number
abbrev pub head_is_formed : ℕ → ℕ → ℕ → ℕ → Bool
head_is_formed visible first actions head =
    is_occupied head && (visible_bits head == visible) && nat_le first (code_of head) && nat_lt (code_of head) (first + actions)

-- such a cell, where a slot's own instructions are meant, and not its default
abbrev pub content_is_formed : ℕ → ℕ → SlotUnit → Content → Bool
content_is_formed visible first s c = head_is_formed visible first s.actions c.head

-- a cell in which no bit is set; an exact key's mask stands in no memory
abbrev pub is_clear : Memory → Content → Bool
is_clear Without c = true
is_clear (Exact k p d w ks rs cs) c = (c.head == 0) && (c.key == 0) && (c.held == 0)
is_clear (Ternary d ks rs cs) c = (c.head == 0) && (c.key == 0) && (c.held == 0) && (c.mask == 0)

abbrev pub cells_of : SlotUnit → List ℕ
cells_of s = map (λ (n : CellNumber). n.cell) s.numbers

-- the numbers of a slot tell cells of it, rising, each of them occupied
abbrev pub numbers_are_formed : ℕ → ℕ → Stage → SlotUnit → Bool
numbers_are_formed visible first stage s =
    rises_from 0 (cells_of s) && list_all (λ n. nat_lt n (cells_in s.memory)) (cells_of s)
    && list_all (λ n. head_is_formed visible first s.actions (content_of stage s n).head) (cells_of s)

-- ---- all else is zero

-- units of that many blocks have no bit set from a bit of their rows on
abbrev pub EndsAt : ℕ → Blocks → List ℕ → ℕ → ℕ → Type 0
EndsAt size held blocks each end = (unit row : ℕ) → unit_row size held row (blocks_at blocks each unit) < 2 ^ end

-- the records of a memory: none behind the last of a row, nor behind that of the last cell of a quantum
pub record RecordsEnd (sram : Blocks) (records : List ℕ) (quanta : ℕ) (thousands : ℕ) (n : ℕ) : Type 0 where
  pub rows : EndsAt 112 sram records (record_width n) (records_a_row n * n)
  pub quantum : (u i : ℕ) → u < quanta → 1024 * thousands ≤ i → i < record_units thousands n * (1024 * records_a_row n) → record_at sram records thousands n u i ≡ 0

-- no bit outside the cells: behind the last entry of a row, past a key, and behind the records
pub data MemoryEnds (stage : Stage) (s : SlotUnit) : Memory → Type 0 where
  none : MemoryEnds stage s Without
  exact : (k p d w : ℕ) (ks rs cs : List ℕ)
      → EndsAt 112 (sram_row stage.srows) ks k (p * (bits_of_lanes s.keys + 8))
      → RecordsEnd (sram_row stage.srows) rs d (4 * p) s.held
      → MemoryEnds stage s (Exact k p d w ks rs cs)
  ternary : (d : ℕ) (ks rs cs : List ℕ)
      → EndsAt 40 (tcam_row (λ t. t.mask) stage.trows) ks (divided_up (bits_of_lanes s.keys) 40) (bits_of_lanes s.keys)
      → RecordsEnd (sram_row stage.srows) rs d 2 (s.held + 8)
      → MemoryEnds stage s (Ternary d ks rs cs)

-- a slot whose first instruction has this number, and whose occupied cells have these visible bits
pub record SlotHolds (visible : ℕ) (stage : Stage) (first : ℕ) (s : SlotUnit) : Type 0 where
  pub numbers : IsTrue (numbers_are_formed visible first stage s)
  pub others : (n : ℕ) → n < cells_in s.memory → IsTrue (not (list_any (λ m. m == n) (cells_of s))) → IsTrue (is_clear s.memory (content_of stage s n))
  pub ends : MemoryEnds stage s s.memory

-- a slot and the number of its first instruction in the stage
pub record Coded : Type 0 where
  pub first : ℕ
  pub slot : SlotUnit

-- the slots among units of a stage, whose first instruction has this number; each has one for each action and its default's
abbrev pub coded_from : ℕ → List Unit → List Coded
coded_from first [] = []
coded_from first ((Gate g) ∷ units) = coded_from first units
coded_from first ((Slot s) ∷ units) = record { first = first; slot = s } ∷ coded_from (first + s.actions + 1) units

-- the same of each slot of a stage
abbrev pub StageHolds : ℕ → Stage → Type 0
StageHolds visible stage = All (λ (c : Coded). SlotHolds visible stage c.first c.slot) (coded_from 0 stage.units)

-- the entry numbers of a configuration, as they stand
abbrev pub numbers_of_unit : Unit → List ℕ
numbers_of_unit (Gate g) = []
numbers_of_unit (Slot s) = map (λ (n : CellNumber). n.number) s.numbers

abbrev pub numbers_of_stage : Stage → List ℕ
numbers_of_stage stage = flat_map numbers_of_unit stage.units

abbrev pub entry_numbers : Config → List ℕ
entry_numbers c = flat_map numbers_of_stage c.stages

-- no entry number stands twice
abbrev pub entries_are_numbered : Config → Bool
entries_are_numbered c = are_new [] (entry_numbers c)
