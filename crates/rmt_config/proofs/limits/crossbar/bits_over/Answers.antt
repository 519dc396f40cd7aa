use Rattle.std.proofs.Common.{take}
use Rattle.std.specs.List.{flat_map}
use Rattle.rmt_config.specs.LimitSteps.{words_over}
use Rattle.rmt_config.proofs.LimitLemmas.{marks_of_items}
use Rattle.rmt_config.proofs.limits.crossbar.bits_over.Goals as goal

pub loop-unit-preserved : goal.loop-unit-preserved
loop-unit-preserved c =
    let i = c.loop-unit.unit-index in
    marks_of_items (words_over c.args.crossbar) c.args.units.now i c.unit-item.result c.mark.new.marks c.loop-unit-test.true c.unit-item.is
    (c.mark.ensures (flat_map (words_over c.args.crossbar) (take i c.args.units.now)) c.loop-unit.invariant)
