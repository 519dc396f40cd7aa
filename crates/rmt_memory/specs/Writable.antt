-- Which changed cells a memory takes.
use Rattle.std.specs.Prelude.{◌≡◌, ◌≢◌, ℕ, ◌^◌, ◌<◌, ◌==◌, if◌then◌else◌, List, [], length, Option, Some, option_and_then, slice_get}
use Rattle.rmt_bits.specs.Bits.{number_of}
use Rattle.rmt_memory.specs.Types.{Stage, SlotUnit, Memory}
use Rattle.rmt_config.specs.declared.cell_write.CellWrite.{CellWrite}
use Rattle.rmt_config.specs.declared.config.Memory.TheVariants.{Without, Exact, Ternary}
use Rattle.rmt_config.specs.LaneForm.{bits_of_lanes}
use Rattle.rmt_config.specs.BlockCounts.{divided_up}
use Rattle.rmt_config.specs.Cells.{Content, cells_in}
use Rattle.rmt_config.specs.RunCells.{as_slot, written_content}

-- bytes of a number of that many bits
pub record AreBits (bits : ℕ) (bytes : List ℕ) : Type 0 where
  pub size : length bytes ≡ divided_up bits 8
  pub small : number_of bytes < 2 ^ bits

-- an exact part takes no mask, a ternary one a mask as long as its keys
abbrev pub MaskTaken : ℕ → Memory → List ℕ → Type 0
MaskTaken bits Without mask = Unit {0}
MaskTaken bits (Exact k p d w ks rs cs) mask = mask ≡ []
MaskTaken bits (Ternary d ks rs cs) mask = AreBits bits mask

-- an entry that a cell of a slot is to have
pub record EntryTaken (slot : SlotUnit) (w : CellWrite) : Type 0 where
  pub code : w.code < 32
  pub key : AreBits (bits_of_lanes slot.keys) w.key
  pub mask : MaskTaken (bits_of_lanes slot.keys) slot.memory w.mask
  pub held : AreBits slot.held w.held

-- a changed cell of a slot; of one that is emptied only its number counts
pub record WriteTaken (slot : SlotUnit) (w : CellWrite) : Type 0 where
  pub cell : w.cell < cells_in slot.memory
  pub visible : w.visible < 4
  pub entry : w.visible ≢ 0 → EntryTaken slot w

-- the slot at a place of a stage
abbrev pub slot_in : List Stage → ℕ → ℕ → Option SlotUnit
slot_in stages k place = option_and_then (λ (stage : Stage). option_and_then as_slot (slice_get stage.units place)) (slice_get stages k)

-- a changed cell of a slot that is there
pub record IsTaken (stages : List Stage) (w : CellWrite) : Type 0 where
  pub slot : SlotUnit
  pub there : slot_in stages w.stage w.unit ≡ Some slot
  pub taken : WriteTaken slot w

-- what the cells of a slot hold, and the numbers of their entries, after a changed cell
abbrev pub content_after : CellWrite → SlotUnit → (ℕ → Content) → ℕ → Content
content_after w slot content n = if w.cell == n then written_content w slot else content n

abbrev pub number_after : CellWrite → (ℕ → ℕ) → ℕ → ℕ
number_after w number n = if w.cell == n then (if w.visible == 0 then 0 else w.number) else number n
