-- When a slot lists exactly its occupied cells.
use Rattle.std.specs.Prelude.{◌≡◌, ◌<◌, ℕ, true, Some, Contains, slice_get}
use Rattle.rmt_config.specs.CellForm.{cells_of}
use Rattle.rmt_config.specs.Cells.{cells_in, content_of, is_occupied}
use Rattle.rmt_config.specs.Order.{rises_from}
use Rattle.rmt_refine.specs.Types.{CellNumber, Config, SlotUnit, Stage}
use Rattle.rmt_refine.specs.View.{slot_of}

-- The numbers of a slot tell its occupied cells, each once, by rising cell, and no other cell.
pub record ListsItsCells (stage : Stage) (slot : SlotUnit) : Type 0 where
  pub rises : rises_from 0 (cells_of slot) ≡ true
  pub within : (n : CellNumber) → Contains slot.numbers n → n.cell < cells_in slot.memory
  pub seen : (n : CellNumber) → Contains slot.numbers n → is_occupied (content_of stage slot n.cell).head ≡ true
  pub others : (n : ℕ) → n < cells_in slot.memory → is_occupied (content_of stage slot n).head ≡ true → Contains (cells_of slot) n

-- each slot of a configuration does
abbrev pub ListTheirCells : Config → Type 0
ListTheirCells c = (k place : ℕ) (stage : Stage) (slot : SlotUnit) → slice_get c.stages k ≡ Some stage → slot_of stage place ≡ Some slot → ListsItsCells stage slot
