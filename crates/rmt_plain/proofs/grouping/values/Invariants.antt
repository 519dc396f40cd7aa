use Rattle.std.proofs.Common.{◌≡◌, take}
use Rattle.rmt_plain.specs.Grouping.{values_of}
use Rattle.rmt_plain.proofs.grouping.values.Given as goal

abbrev pub invariant-loop-test : goal.invariant-loop-test
invariant-loop-test l = l.values.items ≡ values_of (take l.test-index l.tests)
