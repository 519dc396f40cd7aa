use Rattle.std.proofs.Common.{◌≡◌, take}
use Rattle.rmt_improve.proofs.weight.reversed.Given as goal

-- the numbers so far
abbrev pub invariant-loop-number : goal.invariant-loop-number
invariant-loop-number l = l.reversed.items ≡ take l.number-index l.numbers
