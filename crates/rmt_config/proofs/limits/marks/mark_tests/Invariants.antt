use Rattle.std.proofs.Common.{ℕ, List, ◌++◌, take, map}
use Rattle.rmt_config.specs.Types.{GateTest}
use Rattle.rmt_config.specs.LimitSteps.{Marks}
use Rattle.rmt_config.proofs.limits.marks.mark_tests.Given as goal

abbrev pub invariant-loop-test : goal.invariant-loop-test
invariant-loop-test l = (ns : List ℕ) → Marks ns l.fn.marks → Marks (ns ++ map (λ (test : GateTest). test.lane.word) (take l.test-index l.tests)) l.marks
