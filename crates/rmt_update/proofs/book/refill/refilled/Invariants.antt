use Rattle.rmt_update.specs.Refill.{AreRefilled}
use Rattle.rmt_update.proofs.book.refill.refilled.Given as goal

-- the entries so far are put
abbrev pub invariant-loop-at : goal.invariant-loop-at
invariant-loop-at l = AreRefilled l.table l.entries l.spots l.at l.parts.items
