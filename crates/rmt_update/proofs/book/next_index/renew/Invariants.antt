use Rattle.rmt_update.proofs.NextIndexSteps.{RenewedSoFar}
use Rattle.rmt_update.proofs.book.next_index.renew.Given as goal

-- the tables so far
abbrev pub invariant-loop-index : goal.invariant-loop-index
invariant-loop-index l = RenewedSoFar l.index-index l.fn.indexes l.indexes
