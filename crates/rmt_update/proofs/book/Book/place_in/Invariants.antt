use Rattle.std.proofs.Common.{take}
use Rattle.rmt_update.specs.Come.{HaveCome, IsRunOf, Run, come_to}
use Rattle.rmt_update.specs.ComeIndex.{HasPlacedIn}
use Rattle.rmt_update.proofs.PlacingSteps.{Progress}
use Rattle.rmt_update.proofs.book.Book.place_in.Given as goal

-- the entries so far have come
abbrev pub invariant-loop-entry : goal.invariant-loop-entry
invariant-loop-entry l = record {
  come : (w : Run) → IsRunOf l.self l.changes w → HaveCome w l.self l.changes (come_to l.changes (take l.at l.self.tables.items)) l.fn.placing → Progress w l.self l.changes l.at l.table l.entry-index l.placing l.index;
  rows : HasPlacedIn l.self.odd l.changes.gone l.self.tables.items l.at l.fn.placing l.placing l.index;
}
