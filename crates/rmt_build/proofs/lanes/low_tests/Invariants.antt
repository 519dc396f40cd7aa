use Rattle.std.proofs.Common.{◌≡◌, ◌+◌, ◌++◌, drop}
use Rattle.rmt_config.specs.LaneForm.{bits_of_lanes}
use Rattle.rmt_refine.specs.Units.{tests_from}
use Rattle.rmt_build.proofs.lanes.low_tests.Given as goal

-- the tests so far, and those of the lanes that are left from bit `low` on, are all
abbrev pub invariant-loop-lane : goal.invariant-loop-lane
invariant-loop-lane l = record {
  all : l.tests.items ++ tests_from l.low l.test (drop l.lane-index l.lanes) ≡ tests_from 0 l.test l.lanes;
  left : l.low + bits_of_lanes (drop l.lane-index l.lanes) ≡ bits_of_lanes l.lanes;
}
