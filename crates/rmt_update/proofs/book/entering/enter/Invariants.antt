use Rattle.rmt_book.specs.BookSpots.{kept_at}
use Rattle.rmt_update.specs.Turning.{HaveCells, LeadBack, come_to}
use Rattle.rmt_update.proofs.book.entering.enter.Given as goal

-- those so far have come, and the turns lead back
abbrev pub invariant-loop-coming : goal.invariant-loop-coming
invariant-loop-coming l = record {
  came : HaveCells l.fn.tables.items l.tables.items (λ s. come_to l.yielded s (kept_at l.fn.tables.items s));
  back : LeadBack l.entered.items l.tables.items l.fn.tables.items;
}
