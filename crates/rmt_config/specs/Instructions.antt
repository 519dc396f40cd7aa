-- The instructions of a stage, which stand in the order of its units.
use Rattle.std.specs.Prelude.{ℕ, ◌+◌, take}
use Rattle.std.specs.List.{sum_by}
use Rattle.rmt_config.specs.Types.{Stage, Unit}
use Rattle.rmt_config.specs.declared.config.Unit.TheVariants.{Gate, Slot}

-- the instructions of a unit: a slot has one for each action, and its default's
abbrev pub unit_instructions : Unit → ℕ
unit_instructions (Gate g) = 0
unit_instructions (Slot s) = s.actions + 1

-- the number of the first instruction of the unit at a place of a stage
abbrev pub first_code : Stage → ℕ → ℕ
first_code stage place = sum_by unit_instructions (take place stage.units)
