use Rattle.std.proofs.Common.{◌≡◌, take, sum}
use Rattle.rmt_vliw.proofs.operation.begin_of.Given as goal

abbrev pub invariant-loop-width : goal.invariant-loop-width
invariant-loop-width l = l.bits ≡ sum (take l.width-index (take l.end l.params))
