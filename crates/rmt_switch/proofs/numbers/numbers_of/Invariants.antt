use Rattle.std.proofs.Common.{◌≡◌, length}
use Rattle.rmt_switch.specs.GroupText.{all_ports, numbers_of, words}
use Rattle.rmt_switch.specs.LinesSoFar.{behind}
use Rattle.rmt_switch.proofs.numbers.numbers_of.Given as goal

-- the numbers so far, and then those of the words that are left
abbrev pub invariant-loop-rest : goal.invariant-loop-rest
invariant-loop-rest l = numbers_of l.line ≡ behind l.numbers (all_ports (words l.rest))

abbrev pub decreases-loop-rest : goal.decreases-loop-rest
decreases-loop-rest l = length l.rest
