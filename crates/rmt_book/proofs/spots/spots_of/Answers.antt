use Rattle.std.proofs.Common.{◌∙◌}
use Rattle.rmt_book.specs.Spots.{spot_from}
use Rattle.rmt_book.proofs.SliceLoops.{map-all, map-next}
use Rattle.rmt_book.proofs.spots.spots_of.Goals as goal

pub loop-number-preserved : goal.loop-number-preserved
loop-number-preserved c =
    map-next (spot_from 0 c.args.parts.now) c.args.numbers.now c.loop-number.number-index 0 c.loop-number.spots.items _ _ c.loop-number-test.true c.loop-number.invariant c.in_ok-push.ensures.items c.spot_of.ensures

pub returns : goal.returns
returns c =
    c.from_vec.ensures
    ∙ map-all (spot_from 0 c.args.parts.now) c.args.numbers.now c.loop-number.number-index c.loop-number.spots.items c.loop-number.invariant c.loop-number-test.false
