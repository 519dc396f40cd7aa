use Rattle.std.proofs.Common.{◌++◌, [], List, get_or, ap, ◌∙◌}
use Rattle.std.specs.List.{flat_map}
use Rattle.std.proofs.lemmas.List.{take_all}
use Rattle.rmt_chip.specs.Types.{Stage, Unit}
use Rattle.rmt_config.specs.ChipRun.{unit_numbers}
use Rattle.rmt_chip.proofs.CounterLaws.{flat-next}
use Rattle.rmt_chip.proofs.counters.numbers_of.Goals as goal

pub loop-stage-preserved : goal.loop-stage-preserved
loop-stage-preserved c =
    let stages = c.args.config.now.stages in
    let it = c.stage-item.result in
    let same = c.as_slice-stage-items.ensures in
    flat-next (λ (stage : Stage). flat_map unit_numbers stage.units) stages c.loop-stage.stage-index it [] _ _ (rw same at c.loop-stage-test.true)
    (c.stage-item.is ∙ ap (λ (ss : List Stage). get_or ss c.loop-stage.stage-index it) same) c.loop-stage.invariant
    (c.in_ok-push_units.ensures ∙ ap (λ (us : List Unit). c.loop-stage.numbers.items ++ flat_map unit_numbers us) c.as_slice.ensures)

pub returns : goal.returns
returns c =
    c.loop-stage.invariant ∙ ap (flat_map (λ (stage : Stage). flat_map unit_numbers stage.units)) (take_all c.loop-stage.stage-index c.args.config.now.stages (rw (← c.as_slice-stage-items.ensures) c.loop-stage-test.false))
