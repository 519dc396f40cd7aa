-- The slots of the stages of a configuration.
use Rattle.std.specs.Prelude.{ℕ, Option, option_and_then, slice_get}
use Rattle.rmt_config.specs.declared.config.Stage.{Stage}
use Rattle.rmt_config.specs.declared.config.SlotUnit.{SlotUnit}
use Rattle.rmt_config.specs.RunCells.{as_slot}

-- the slot at a place of a stage
abbrev pub slot_of : Stage → ℕ → Option SlotUnit
slot_of stage place = option_and_then as_slot (slice_get stage.units place)
