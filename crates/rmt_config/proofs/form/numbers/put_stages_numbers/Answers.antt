use Rattle.std.proofs.Common.{◌++◌, ap, ◌∙◌}
use Rattle.std.specs.List.{flat_map}
use Rattle.rmt_config.specs.CellForm.{numbers_of_stage, numbers_of_unit}
use Rattle.rmt_config.proofs.LoopLaws.{joined-all, joined-more}
use Rattle.rmt_config.proofs.form.numbers.put_stages_numbers.Goals as goal

pub loop-stage-preserved : goal.loop-stage-preserved
loop-stage-preserved c =
    let old = c.loop-stage.numbers.items in
    joined-more c.args.numbers.now.items c.args.stages.now c.loop-stage.stage-index numbers_of_stage old c.put_units_numbers.new.numbers.items
    c.stage-item.result c.stage-item.result c.loop-stage-test.true c.stage-item.is
    (c.in_ok-put_units_numbers.ensures ∙ ap (λ units. old ++ flat_map numbers_of_unit units) c.as_slice.ensures) c.loop-stage.invariant

pub returns : goal.returns
returns c = joined-all c.args.numbers.now.items c.args.stages.now c.loop-stage.stage-index numbers_of_stage c.loop-stage.numbers.items c.loop-stage-test.false c.loop-stage.invariant
