use Rattle.std.proofs.Common.{take}
use Rattle.rmt_update.specs.BookIndex.{FindsCells}
use Rattle.rmt_update.specs.Come.{HaveCome, IsRunOf, Run, come_to}
use Rattle.rmt_update.proofs.PlacedIndex.{PlacedSoFar}
use Rattle.rmt_update.proofs.book.Book.place.Given as goal

-- the entries of the tables so far have come
abbrev pub invariant-loop-at : goal.invariant-loop-at
invariant-loop-at l = record {
  come : (w : Run) → IsRunOf l.self l.changes w → HaveCome w l.self l.changes (come_to l.changes (take l.at l.self.tables.items)) l.placing;
  cells : FindsCells l.self.tables.items l.index;
  rows : PlacedSoFar l.self.odd l.changes.gone l.self.tables.items l.at l.placing l.index.tables.items;
}
