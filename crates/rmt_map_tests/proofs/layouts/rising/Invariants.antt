use Rattle.rmt_bounds.specs.Bounds.{EdgesRise}
use Rattle.rmt_map_tests.proofs.layouts.rising.Given as goal

-- each edge so far goes to a later node
abbrev pub invariant-loop-edge : goal.invariant-loop-edge
invariant-loop-edge l = EdgesRise l.program l.rising
