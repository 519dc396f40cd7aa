use Rattle.rmt_config.specs.CellForm.{numbers_of_unit}
use Rattle.rmt_config.proofs.LoopLaws.{joined-all, joined-more}
use Rattle.rmt_config.proofs.form.numbers.put_units_numbers.Goals as goal

pub loop-unit-preserved : goal.loop-unit-preserved
loop-unit-preserved c =
    joined-more c.args.numbers.now.items c.args.units.now c.loop-unit.unit-index numbers_of_unit c.loop-unit.numbers.items c.put_unit_numbers.new.numbers.items
    c.unit-item.result c.unit-item.result c.loop-unit-test.true c.unit-item.is c.in_ok-put_unit_numbers.ensures c.loop-unit.invariant

pub returns : goal.returns
returns c = joined-all c.args.numbers.now.items c.args.units.now c.loop-unit.unit-index numbers_of_unit c.loop-unit.numbers.items c.loop-unit-test.false c.loop-unit.invariant
