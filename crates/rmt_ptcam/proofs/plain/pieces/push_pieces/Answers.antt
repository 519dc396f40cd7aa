use Rattle.std.proofs.Common.{◌+◌, arith}
use Rattle.rmt_bits.specs.declared.lane.Lane.{Lane}
use Rattle.rmt_config.specs.LaneForm.{bits_of_lanes}
use Rattle.rmt_ptcam.proofs.PlainLaws.{piece_step, start_pushed, next_fits, end_pushed, end_bits}
use Rattle.rmt_ptcam.proofs.plain.pieces.push_pieces.Goals as goal

abbrev no_lane : Lane
no_lane = record { word = 0; low = 0; len = 0 }

pub loop-left-init : goal.loop-left-init
loop-left-init c = record { within = omega arith; pushed = start_pushed c.args.lanes.now c.args.extracts.now c.args.from }

pub overflow_add-next : goal.overflow_add-next
overflow_add-next c =
    let fits = next_fits c.args.lanes.now c.loop-left.left no_lane c.loop-left.extracts c.args.extracts.now c.loop-left.next c.args.from (c.args.from + bits_of_lanes c.args.lanes.now) c.from-next.result c.loop-left-test.true c.loop-left.invariant.within c.from-next.ensures c.loop-left.invariant.pushed in
    omega (arith, fits, c.requires)

pub loop-left-preserved : goal.loop-left-preserved
loop-left-preserved c = record {
  within = omega arith;
  pushed =
      piece_step c.args.lanes.now c.loop-left.left no_lane c.loop-left.extracts c.push.new.self c.args.extracts.now c.loop-left.next c.args.from c.from-next.result (c.args.from + bits_of_lanes c.args.lanes.now)
      c.loop-left-test.true c.loop-left.invariant.within c.in_ok-push.ensures.ok c.from-next.ensures c.loop-left.invariant.pushed.bits c.loop-left.invariant.pushed.pushed;
}

pub returns-clause-pushed : goal.returns-clause-pushed
returns-clause-pushed c =
    end_pushed c.args.lanes.now c.loop-left.left c.loop-left.extracts c.args.extracts.now c.loop-left.next c.args.from (c.args.from + bits_of_lanes c.args.lanes.now) (omega arith) c.loop-left.invariant.pushed

pub returns-clause-behind : goal.returns-clause-behind
returns-clause-behind c =
    end_bits c.args.lanes.now c.loop-left.left c.loop-left.extracts c.args.extracts.now c.loop-left.next c.args.from (c.args.from + bits_of_lanes c.args.lanes.now) (omega arith) c.loop-left.invariant.pushed
