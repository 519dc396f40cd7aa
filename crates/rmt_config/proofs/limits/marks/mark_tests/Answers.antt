use Rattle.std.proofs.Common.{ℕ, List, ◌++◌, take, map, subst, arith}
use Rattle.rmt_config.specs.Types.{GateTest}
use Rattle.rmt_config.specs.LimitSteps.{Marks}
use Rattle.rmt_config.proofs.LimitLemmas.{front_more, marks_of_all}
use Rattle.rmt_config.proofs.limits.marks.mark_tests.Goals as goal

pub loop-test-preserved : goal.loop-test-preserved
loop-test-preserved c = λ ns m.
    let i = c.loop-test.test-index in
    subst (λ (l : List ℕ). Marks l c.mark.new.marks)
    (front_more (λ (test : GateTest). test.lane.word) ns c.args.tests.now i (record { lane = record { word = 0; low = 0; len = 0 }; value = 0; mask = 0 }) c.loop-test-test.true)
    (c.mark.ensures (ns ++ map (λ (test : GateTest). test.lane.word) (take i c.args.tests.now)) (c.loop-test.invariant ns m))

pub returns : goal.returns
returns c = λ ns m. marks_of_all (λ (test : GateTest). test.lane.word) ns c.args.tests.now c.loop-test.test-index c.loop-test.marks (omega arith) (c.loop-test.invariant ns m)
