use Rattle.std.proofs.Common.{◌≡◌, take}
use Rattle.std.specs.List.{flat_map}
use Rattle.rmt_chip.specs.Types.{Stage}
use Rattle.rmt_config.specs.ChipRun.{unit_numbers}
use Rattle.rmt_chip.proofs.counters.numbers_of.Given as goal

abbrev pub invariant-loop-stage : goal.invariant-loop-stage
invariant-loop-stage l = l.numbers.items ≡ flat_map (λ (stage : Stage). flat_map unit_numbers stage.units) (take l.stage-index l.config.stages)
