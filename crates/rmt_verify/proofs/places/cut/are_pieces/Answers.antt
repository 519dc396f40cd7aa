use Rattle.std.proofs.Common.{arith}
use Rattle.rmt_bits.specs.declared.lane.Lane.{Lane}
use Rattle.rmt_verify.proofs.PlaceLaws.{cut_more, next_len, some_left}
use Rattle.rmt_verify.proofs.places.cut.are_pieces.Goals as goal

abbrev none : Lane
none = record { word = 0; low = 0; len = 0 }

pub returns-then-left-eq0 : goal.returns-then-left-eq0
returns-then-left-eq0 c =
    (λ no. absurd cc, λ all. absurd (omega (arith, c.if-left-eq0.true, some_left c.args.width c.loop-lane.left c.args.lanes.now c.loop-lane.lane-index none (omega (arith, c.loop-lane-test.true)) c.loop-lane.invariant all)))

pub returns-then-lane-min : goal.returns-then-lane-min
returns-then-lane-min c =
    (λ no. absurd cc, λ all. absurd (omega (arith, c.if-lane-min.true, c.min.ensures, next_len c.args.width c.loop-lane.left c.args.lanes.now c.loop-lane.lane-index none (omega (arith, c.loop-lane-test.true)) c.loop-lane.invariant all)))

pub loop-lane-preserved : goal.loop-lane-preserved
loop-lane-preserved c =
    cut_more c.args.width c.loop-lane.left c.args.lanes.now c.loop-lane.lane-index none (omega (arith, c.loop-lane-test.true)) c.loop-lane.invariant
    (omega (arith, c.if-left-eq0.false)) (omega (arith, c.if-lane-min.false, c.min.ensures))
