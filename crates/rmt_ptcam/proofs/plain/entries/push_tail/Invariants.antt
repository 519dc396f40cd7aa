use Rattle.std.proofs.Common.{◌≡◌, ◌++◌, ◌-◌, map}
use Rattle.std.specs.List.{range_with_len}
use Rattle.rmt_ptcam.specs.Plain.{tail_at}
use Rattle.rmt_ptcam.proofs.plain.entries.push_tail.Given as goal

abbrev pub invariant-loop-entry : goal.invariant-loop-entry
invariant-loop-entry l = l.tails ≡ l.initial.tails ++ map (tail_at l.program l.number l.header l.tail) (range_with_len l.first (l.entry - l.first))
