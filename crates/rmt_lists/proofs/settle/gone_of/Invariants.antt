use Rattle.std.proofs.Common.{◌≡◌, ◌++◌}
use Rattle.rmt_lists.proofs.settle.gone_of.Given as goal

-- the numbers so far, and then the others
abbrev pub invariant-loop-number : goal.invariant-loop-number
invariant-loop-number l = l.numbers ++ l.number-iterator ≡ l.gone.keys
