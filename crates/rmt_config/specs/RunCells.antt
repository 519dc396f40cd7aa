-- The cells of a run: what they hold, which of them a packet sees, what it finds there, and what a change leaves of them.
use Rattle.std.specs.Prelude.{ℕ, ◌+◌, ◌*◌, ◌-◌, ◌/◌, ◌%◌, ◌^◌, List, [], Bool, not, ◌&&◌, ◌||◌, ◌==◌, bit_and, if◌then◌else◌, Option, Some, None, find, is_some, option_map, option_and_then, slice_get, unwrap_or}
use Rattle.rmt_bits.specs.Bits.{number_of}
use Rattle.rmt_config.specs.Types.{Config, Stage, Unit, SlotUnit, Memory}
use Rattle.rmt_config.specs.declared.cell_write.CellWrite.{CellWrite}
use Rattle.rmt_config.specs.declared.config.Unit.TheVariants.{Gate, Slot}
use Rattle.rmt_config.specs.declared.config.Memory.TheVariants.{Without, Exact, Ternary}
use Rattle.rmt_config.specs.LaneForm.{bits_of_lanes}
use Rattle.rmt_config.specs.Cells.{Content, Found, candidates, code_of, content_of, is_occupied, number_of_cell}
use Rattle.rmt_config.specs.Life.{Look}

-- a unit as a slot
abbrev pub as_slot : Unit → Option SlotUnit
as_slot (Gate g) = None
as_slot (Slot s) = Some s

-- the slot at a place of a stage
abbrev pub slot_at : Config → ℕ → ℕ → Option SlotUnit
slot_at c k place = option_and_then (λ (stage : Stage). option_and_then as_slot (slice_get stage.units place)) (slice_get c.stages k)

-- ---- cells

-- the current version and seed, and of each cell, by stage, place of the slot in the stage and number in the slot, what it holds and the
-- number of its entry
pub record RunCells : Type 0 where
  pub version : ℕ
  pub seed : ℕ
  pub content : ℕ → ℕ → ℕ → Content
  pub number : ℕ → ℕ → ℕ → ℕ

-- a cell that is no cell of a slot
abbrev pub no_content : Content
no_content = record { head = 0; key = 0; mask = 0; held = 0 }

abbrev pub own_content : Config → ℕ → ℕ → ℕ → Content
own_content c k place n =
    unwrap_or (option_and_then (λ (stage : Stage). option_map (λ slot. content_of stage slot n) (option_and_then as_slot (slice_get stage.units place))) (slice_get c.stages k)) no_content

-- the cells of a configuration, in which a run begins
abbrev pub own_cells : Config → RunCells
own_cells c = record {
  version = 0;
  seed = c.seed;
  content = own_content c;
  number = λ k place n. unwrap_or (option_map (λ (slot : SlotUnit). number_of_cell slot.numbers n) (slot_at c k place)) 0;
}

-- ---- what a packet sees

-- the visible bit of a version's parity is set in a head
abbrev pub has_bit : ℕ → ℕ → Bool
has_bit version head = head / 2 ^ (1 + version % 2) % 2 == 1

-- A packet of a version sees a cell that is occupied and has the visible bit of the version's parity, bit 1 of the head for an even
-- version and bit 2 for an odd one; of a configuration without names it sees each occupied cell.
abbrev pub sees : Bool → ℕ → ℕ → Bool
sees named version head = is_occupied head && (not named || has_bit version head)

-- a cell that is seen and agrees with a key on its mask
abbrev pub is_hit : Bool → ℕ → ℕ → Content → Bool
is_hit named version key cell = sees named version cell.head && (bit_and key cell.mask == cell.key)

-- what a look-up finds in a cell
abbrev pub found_at : RunCells → ℕ → ℕ → ℕ → Found
found_at cells k place n = record { code = code_of (cells.content k place n).head; held = (cells.content k place n).held; number = cells.number k place n }

-- what a key finds in a slot: the cell of least number that is seen and has it, among those where it may stand under the seed
abbrev pub found_in_slot : Bool → ℕ → RunCells → ℕ → ℕ → ℕ → SlotUnit → Option Found
found_in_slot named version cells k place key slot =
    option_map (found_at cells k place)
    (find (λ n. is_hit named version key (cells.content k place n)) (candidates cells.seed (bits_of_lanes slot.keys) slot.memory key))

-- the look-ups of a packet of a version in cells
abbrev pub look_in : Config → ℕ → RunCells → Look
look_in c version cells k place key = option_and_then (found_in_slot (is_some c.names) version cells k place key) (slot_at c k place)

-- ---- a changed cell

-- the mask of a cell of a slot; all bits of an exact key count
abbrev pub written_mask : ℕ → Memory → List ℕ → ℕ
written_mask bits Without mask = 0
written_mask bits (Exact k per quanta first_way keys records counters) mask = 2 ^ bits - 1
written_mask bits (Ternary quanta keys records counters) mask = number_of mask

-- a cell of a slot without an entry
abbrev pub emptied : SlotUnit → Content
emptied slot = record { head = 0; key = 0; mask = written_mask (bits_of_lanes slot.keys) slot.memory []; held = 0 }

-- what a changed cell of a slot holds
abbrev pub written_content : CellWrite → SlotUnit → Content
written_content w slot =
    if w.visible == 0
    then emptied slot
    else record {
      head = 1 + 2 * w.visible + 8 * w.code;
      key = number_of w.key;
      mask = written_mask (bits_of_lanes slot.keys) slot.memory w.mask;
      held = number_of w.held;
    }

-- the cell that is changed
abbrev pub is_changed : CellWrite → ℕ → ℕ → ℕ → Bool
is_changed w k place n = (w.stage == k) && (w.unit == place) && (w.cell == n)

-- the cells after a changed cell; all others stay
abbrev pub with_write : Config → RunCells → CellWrite → RunCells
with_write c cells w = record cells {
  content = λ k place n. if is_changed w k place n then unwrap_or (option_map (written_content w) (slot_at c k place)) no_content else cells.content k place n;
  number = λ k place n. if is_changed w k place n then (if w.visible == 0 then 0 else w.number) else cells.number k place n;
}

-- the cells after a new version with a seed
abbrev pub with_version : RunCells → ℕ → RunCells
with_version cells seed = record cells { version = cells.version + 1; seed = seed }
