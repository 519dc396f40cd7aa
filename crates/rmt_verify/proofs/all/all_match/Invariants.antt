use Rattle.std.proofs.Common.{take}
use Rattle.std.specs.List.{AllZip}
use Rattle.rmt_verify.proofs.all.all_match.Given as goal

abbrev pub invariant-loop-at : goal.invariant-loop-at
invariant-loop-at g l = AllZip (g.T.TestOfPair.fit l.test) (take l.at l.lefts) (take l.at l.rights)
