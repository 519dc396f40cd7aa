use Rattle.std.proofs.Common.{take}
use Rattle.rmt_lists.specs.Holding.{Holds}
use Rattle.rmt_lists.proofs.start.held_in.Given as goal

-- the entries so far are held
abbrev pub invariant-loop-entry : goal.invariant-loop-entry
invariant-loop-entry l = Holds l.held (take l.entry-index l.entries)
