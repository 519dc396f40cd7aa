-- What the cells of a run hold: nothing, or what a changed cell can have put there.
use Rattle.std.specs.Prelude.{◌≡◌, ◌⊎◌, ◌<◌, ◌≤◌, ℕ, ◌+◌, ◌-◌, ◌*◌, ◌^◌, Some}
use Rattle.rmt_config.specs.declared.config.Config.{Config}
use Rattle.rmt_config.specs.declared.config.Memory.{Memory}
use Rattle.rmt_config.specs.declared.config.SlotUnit.{SlotUnit}
use Rattle.rmt_config.specs.declared.config.Memory.TheVariants.{Without, Exact, Ternary}
use Rattle.rmt_config.specs.Cells.{Content, cells_in}
use Rattle.rmt_config.specs.LaneForm.{bits_of_lanes}
use Rattle.rmt_config.specs.RunCells.{RunCells, emptied, slot_at}

-- a mask that a cell of a memory with a key of that many bits may have; all bits of an exact key count
abbrev pub MaskFits : ℕ → Memory → ℕ → Type 0
MaskFits bits Without mask = mask ≡ 0
MaskFits bits (Exact k per quanta first_way keys records counters) mask = mask ≡ 2 ^ bits - 1
MaskFits bits (Ternary quanta keys records counters) mask = mask < 2 ^ bits

-- what a cell of a slot holds of an entry that some version sees
pub record HasEntry (slot : SlotUnit) (x : Content) : Type 0 where
  pub visible : ℕ
  pub code : ℕ
  pub head : x.head ≡ 1 + 2 * visible + 8 * code
  pub seen : 1 ≤ visible
  pub visible_small : visible < 4
  pub code_small : code < 32
  pub key : x.key < 2 ^ bits_of_lanes slot.keys
  pub mask : MaskFits (bits_of_lanes slot.keys) slot.memory x.mask
  pub held : x.held < 2 ^ slot.held

-- a cell of a slot that holds this, and has that number: an empty one has number 0
abbrev pub IsFitting : SlotUnit → Content → ℕ → Type 0
IsFitting slot x number = ((x ≡ emptied slot) × (number ≡ 0)) ⊎ HasEntry slot x

-- the cells of a configuration's slots
abbrev pub AreFit : Config → RunCells → Type 0
AreFit c cells = (k place n : ℕ) (slot : SlotUnit) → slot_at c k place ≡ Some slot → n < cells_in slot.memory → IsFitting slot (cells.content k place n) (cells.number k place n)
