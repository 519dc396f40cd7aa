use Rattle.std.proofs.Common.{◌≡◌, ◌++◌, take}
use Rattle.std.specs.List.{flat_map}
use Rattle.rmt_config.specs.ChipRun.{unit_numbers}
use Rattle.rmt_chip.proofs.counters.push_units.Given as goal

abbrev pub invariant-loop-unit : goal.invariant-loop-unit
invariant-loop-unit l = l.numbers.items ≡ l.initial.numbers.items ++ flat_map unit_numbers (take l.unit-index l.units)
