use Rattle.std.proofs.Common.{take}
use Rattle.rmt_book.specs.BookSpots.{kept_at}
use Rattle.rmt_update.specs.Differences.{changes_in}
use Rattle.rmt_update.specs.TurnWrites.{AreOnWay, MoreChanged}
use Rattle.rmt_update.specs.Turning.{left_kept}
use Rattle.rmt_update.proofs.TurnWriteLaws.{HasOne}
use Rattle.rmt_update.proofs.book.leaving.put_gone.Given as goal

-- those of the cells so far that change
abbrev pub invariant-loop-number : goal.invariant-loop-number
invariant-loop-number l =
    AreOnWay l.tables (λ s. left_kept l.odd l.gone (kept_at l.tables s)) (changes_in l.fn.changes.items)
    → MoreChanged l.tables (λ s. left_kept l.odd l.gone (kept_at l.tables s)) (changes_in l.fn.changes.items) (changes_in l.changes.items) (HasOne l.found (take l.number-index l.gone))
