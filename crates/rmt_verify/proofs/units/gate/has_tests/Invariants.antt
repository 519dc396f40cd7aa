use Rattle.std.proofs.Common.{◌≡◌, ◌+◌, ◌++◌, drop, reverse, take}
use Rattle.rmt_config.specs.LaneForm.{bits_of_lanes}
use Rattle.rmt_refine.specs.Units.{tests_from}
use Rattle.rmt_verify.proofs.units.gate.has_tests.Given as goal

-- the tests so far agree, from the last one on; the lanes that are left begin at bit `low`
abbrev pub invariant-loop-at : goal.invariant-loop-at
invariant-loop-at l = record {
  agree : tests_from 0 l.test l.lanes ≡ take l.at (reverse l.tests) ++ tests_from l.low l.test (drop l.at l.lanes);
  left : l.low + bits_of_lanes (drop l.at l.lanes) ≡ bits_of_lanes l.lanes;
}
