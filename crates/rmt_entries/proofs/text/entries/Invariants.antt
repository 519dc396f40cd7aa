use Rattle.std.proofs.Common.{◌+◌, ◌≤◌, length}
use Rattle.rmt_entries.specs.Reads.{Reads}
use Rattle.rmt_entries.proofs.text.entries.Given as goal

-- the lines before the rest are read
abbrev pub invariant-loop-rest : goal.invariant-loop-rest
invariant-loop-rest l = record {
  reads : Reads l.program l.text l.rest l.number l.gathered;
  room : l.number + length l.rest ≤ length l.text + 1;
}

abbrev pub decreases-loop-rest : goal.decreases-loop-rest
decreases-loop-rest l = length l.rest
