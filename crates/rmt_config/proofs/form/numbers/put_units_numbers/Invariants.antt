use Rattle.std.proofs.Common.{◌≡◌, ◌++◌, take}
use Rattle.std.specs.List.{flat_map}
use Rattle.rmt_config.specs.CellForm.{numbers_of_unit}
use Rattle.rmt_config.proofs.form.numbers.put_units_numbers.Given as goal

abbrev pub invariant-loop-unit : goal.invariant-loop-unit
invariant-loop-unit l = l.numbers.items ≡ l.fn.numbers.items ++ flat_map numbers_of_unit (take l.unit-index l.units)
