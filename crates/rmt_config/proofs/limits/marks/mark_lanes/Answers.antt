use Rattle.std.proofs.Common.{ℕ, List, ◌++◌, take, subst, arith}
use Rattle.rmt_bits.specs.declared.lane.Lane.{Lane}
use Rattle.rmt_config.specs.Resources.{words_of}
use Rattle.rmt_config.specs.LimitSteps.{Marks}
use Rattle.rmt_config.proofs.LimitLemmas.{front_more, marks_of_all}
use Rattle.rmt_config.proofs.limits.marks.mark_lanes.Goals as goal

pub loop-lane-preserved : goal.loop-lane-preserved
loop-lane-preserved c = λ ns m.
    let i = c.loop-lane.lane-index in
    subst (λ (l : List ℕ). Marks l c.mark.new.marks)
    (front_more (λ (lane : Lane). lane.word) ns c.args.lanes.now i (record { word = 0; low = 0; len = 0 }) c.loop-lane-test.true)
    (c.mark.ensures (ns ++ words_of (take i c.args.lanes.now)) (c.loop-lane.invariant ns m))

pub returns : goal.returns
returns c = λ ns m. marks_of_all (λ (lane : Lane). lane.word) ns c.args.lanes.now c.loop-lane.lane-index c.loop-lane.marks (omega arith) (c.loop-lane.invariant ns m)
