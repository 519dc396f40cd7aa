use Rattle.std.proofs.Common.{◌∙◌}
use Rattle.rmt_config.proofs.CodeLaws.{code_ends_short, code_next, code_breaks}
use Rattle.rmt_config.proofs.form.code.code_fits.Goals as goal

pub loop-unit-preserved : goal.loop-unit-preserved
loop-unit-preserved c =
    code_next c.args.units.now c.loop-unit.unit-index c.unit-item.result c.loop-unit.rest.now c.loop-unit-test.true c.unit-item.is
    c.count_instructions-count.result c.split_at.result.0.now c.split_at.result.1.now c.count_instructions-count.ensures.value c.if-rest-count.false
    c.split_at.ensures.front c.split_at.ensures.back c.if-not-unit_code_fits.ensures
    ∙ c.loop-unit.invariant

pub returns-then-rest-count : goal.returns-then-rest-count
returns-then-rest-count c =
    code_ends_short c.args.units.now c.loop-unit.unit-index c.unit-item.result c.loop-unit.rest.now c.loop-unit-test.true c.unit-item.is
    c.count_instructions-count.result c.count_instructions-count.ensures.value c.if-rest-count.true
    ∙ c.loop-unit.invariant

pub returns-then-not-unit_code_fits : goal.returns-then-not-unit_code_fits
returns-then-not-unit_code_fits c =
    code_breaks c.args.units.now c.loop-unit.unit-index c.unit-item.result c.loop-unit.rest.now c.loop-unit-test.true c.unit-item.is
    c.count_instructions-count.result c.split_at.result.0.now c.split_at.result.1.now c.count_instructions-count.ensures.value c.if-rest-count.false
    c.split_at.ensures.front c.split_at.ensures.back c.if-not-unit_code_fits.ensures
    ∙ c.loop-unit.invariant
