use Rattle.std.proofs.Common.{length}
use Rattle.rmt_switch.specs.LinesSoFar.{Reads}
use Rattle.rmt_switch.proofs.group_text.groups.Given as goal

-- the lines before the rest are read
abbrev pub invariant-loop-rest : goal.invariant-loop-rest
invariant-loop-rest l = Reads l.text l.rest l.number l.groups

abbrev pub decreases-loop-rest : goal.decreases-loop-rest
decreases-loop-rest l = length l.rest
