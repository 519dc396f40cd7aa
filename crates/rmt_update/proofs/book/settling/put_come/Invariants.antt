use Rattle.std.proofs.Common.{Option, take}
use Rattle.rmt_book.specs.declared.kept.Kept.{Kept}
use Rattle.rmt_book.specs.declared.spot.BookSpot.{BookSpot}
use Rattle.rmt_update.specs.Differences.{changes_in}
use Rattle.rmt_update.specs.TurnWrites.{AreChanged}
use Rattle.rmt_update.specs.Turning.{come_to}
use Rattle.rmt_update.proofs.book.settling.put_come.Given as goal

-- the cells to which those so far come
abbrev pub invariant-loop-coming : goal.invariant-loop-coming
invariant-loop-coming l = (next : BookSpot → Option Kept) → AreChanged l.tables next (changes_in l.fn.changes.items) → AreChanged l.tables (λ s. come_to (take l.coming-index l.come) s (next s)) (changes_in l.changes.items)
