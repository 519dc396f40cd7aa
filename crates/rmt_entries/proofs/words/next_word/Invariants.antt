use Rattle.std.proofs.Common.{◌≡◌, length}
use Rattle.rmt_entries.specs.Lines.{words}
use Rattle.rmt_entries.proofs.words.next_word.Given as goal

-- no word stands before the rest
abbrev pub invariant-loop-rest : goal.invariant-loop-rest
invariant-loop-rest l = words l.line ≡ words l.rest

abbrev pub decreases-loop-rest : goal.decreases-loop-rest
decreases-loop-rest l = length l.rest
