use Rattle.std.proofs.Common.{◌++◌, List, ap, ◌∙◌, arith}
use Rattle.std.specs.List.{flat_map}
use Rattle.std.proofs.lemmas.List.{take_all}
use Rattle.rmt_chip.specs.Types.{Unit}
use Rattle.rmt_config.specs.ChipRun.{unit_numbers}
use Rattle.rmt_chip.proofs.CounterLaws.{flat-next}
use Rattle.rmt_chip.proofs.counters.push_units.Goals as goal

pub loop-unit-preserved : goal.loop-unit-preserved
loop-unit-preserved c =
    flat-next unit_numbers c.args.units.now c.loop-unit.unit-index c.unit-item.result c.args.numbers.now.items _ _ (omega arith) c.unit-item.is c.loop-unit.invariant c.in_ok-push_unit.ensures

pub returns : goal.returns
returns c =
    c.loop-unit.invariant ∙ ap (λ (us : List Unit). c.args.numbers.now.items ++ flat_map unit_numbers us) (take_all c.loop-unit.unit-index c.args.units.now (omega arith))
