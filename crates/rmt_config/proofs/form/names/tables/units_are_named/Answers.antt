use Rattle.std.proofs.Common.{Bool, sym, ap, ◌∙◌}
use Rattle.rmt_config.specs.NamesForm.{is_named}
use Rattle.rmt_config.specs.Types.{Unit}
use Rattle.rmt_config.proofs.RowForm.{all_done, all_step, all_stop}
use Rattle.rmt_config.proofs.form.names.tables.units_are_named.Goals as goal

pub returns-then-not-is_named : goal.returns-then-not-is_named
returns-then-not-is_named c =
    let fits : Unit → Bool = is_named c.args.names.now in
    all_stop fits c.args.units.now c.loop-unit.unit-index c.unit-item.result _ c.loop-unit-test.true (ap fits (sym c.unit-item.is) ∙ sym c.is_named.ensures ∙ c.if-not-is_named.true) c.loop-unit.invariant

pub loop-unit-preserved : goal.loop-unit-preserved
loop-unit-preserved c =
    let fits : Unit → Bool = is_named c.args.names.now in
    all_step fits c.args.units.now c.loop-unit.unit-index c.unit-item.result _ c.loop-unit-test.true (ap fits (sym c.unit-item.is) ∙ sym c.is_named.ensures ∙ c.if-not-is_named.false) c.loop-unit.invariant

pub returns : goal.returns
returns c = all_done (is_named c.args.names.now) c.args.units.now c.loop-unit.unit-index _ c.loop-unit-test.false c.loop-unit.invariant
