use Rattle.std.proofs.Common.{[], ◌∙◌, ap, arith}
use Rattle.std.proofs.lemmas.List.{take_all}
use Rattle.rmt_config.specs.CodeForm.{unit_places, places_of}
use Rattle.rmt_items.proofs.Appending.{put_more}
use Rattle.rmt_items.proofs.reading.vliw.place_list.Goals as goal

pub loop-unit-preserved : goal.loop-unit-preserved
loop-unit-preserved c =
    put_more unit_places c.args.units.now c.loop-unit.unit-index c.unit-item.result [] _ _
    c.loop-unit-test.true c.unit-item.is c.loop-unit.invariant c.in_ok-put_unit_places.ensures

pub returns : goal.returns
returns c = c.loop-unit.invariant ∙ ap places_of (take_all c.loop-unit.unit-index c.args.units.now (omega (arith, c.loop-unit-test.false)))
