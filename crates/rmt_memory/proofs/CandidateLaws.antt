-- The cells in which a key may stand are cells of their memory, and of those a configuration lists the occupied ones.
use Rattle.std.proofs.Common.{◌≡◌, ℕ, ◌<◌, Bool, true, false, true≢false, not, ◌==◌, Some, refl, sym, ap, ◌∙◌}
use Rattle.std.specs.Prelude.{All}
use Rattle.std.specs.List.{list_any}
use Rattle.std.proofs.lemmas.Bool.{and_parts}
use Rattle.rmt_memory.specs.Types.{Config, Stage, SlotUnit}
use Rattle.rmt_config.specs.LaneForm.{bits_of_lanes}
use Rattle.rmt_config.specs.UnitForm.{slot_head_is_formed, memory_is_formed}
use Rattle.rmt_config.specs.Cells.{candidates, cells_in, content_of, is_occupied}
use Rattle.rmt_config.specs.CellForm.{SlotHolds, cells_of}
use Rattle.rmt_config.specs.RunCells.{slot_at}
use Rattle.rmt_config.specs.Form.{Formed}
use Rattle.rmt_memory.specs.Memories.{SlotFormed}
use Rattle.rmt_memory.proofs.MemoriesLaws.{SlotPlace, slot_place}
use Rattle.rmt_memory.proofs.StageSlots.{slots_formed}
use Rattle.rmt_config.proofs.CellLaws.{candidates-within, clear-head}

-- ---- the slots of a formed configuration

pub slot-formed : (c : Config) → Formed c → (k place : ℕ) (slot : SlotUnit) → (at : SlotPlace c.stages k place slot) → SlotFormed at.stage slot
slot-formed c formed k place slot at = slots_formed c formed k at.stage at.at place slot at.there

pub slot-within : (c : Config) → Formed c → (k place : ℕ) (slot : SlotUnit) → slot_at c k place ≡ Some slot → (seed key : ℕ) → All (λ n. n < cells_in slot.memory) (candidates seed (bits_of_lanes slot.keys) slot.memory key)
slot-within c formed k place slot is seed key =
    let has = slot-formed c formed k place slot (slot_place c.stages k place slot is) in
    let parts = and_parts (slot_head_is_formed slot) (memory_is_formed slot slot.memory) has.form in
    candidates-within slot slot.memory parts.0 parts.1 seed (bits_of_lanes slot.keys) key

-- ---- occupied cells are listed

pub occupied-listed : (visible : ℕ) (stage : Stage) (first : ℕ) (s : SlotUnit) → SlotHolds visible stage first s → (n : ℕ) → n < cells_in s.memory → is_occupied (content_of stage s n).head ≡ true
    → list_any (λ m. m == n) (cells_of s) ≡ true
occupied-listed visible stage first s holds n lt occupied = by (list_any (λ m. m == n) (cells_of s)) refl
  where
    by : (b : Bool) → list_any (λ m. m == n) (cells_of s) ≡ b → list_any (λ m. m == n) (cells_of s) ≡ true
    by true e = e
    by false e =
        let head = clear-head s.memory (content_of stage s n) n lt (holds.others n lt (ap not e)) in
        absurd (true≢false (sym occupied ∙ ap is_occupied head))
