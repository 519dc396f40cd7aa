use Rattle.std.proofs.Common.{take}
use Rattle.std.specs.Prelude.{AllPairs}
use Rattle.rmt_verify.proofs.all.every_two.Given as goal

abbrev pub invariant-loop-at : goal.invariant-loop-at
invariant-loop-at g l = AllPairs g.P.TestOfTwo.hold (take l.at l.lanes)
