use Rattle.std.proofs.Common.{◌≡◌, take}
use Rattle.rmt_plain.specs.Grouping.{masks_of}
use Rattle.rmt_plain.proofs.grouping.masks.Given as goal

abbrev pub invariant-loop-test : goal.invariant-loop-test
invariant-loop-test l = l.masks.items ≡ masks_of (take l.test-index l.tests)
