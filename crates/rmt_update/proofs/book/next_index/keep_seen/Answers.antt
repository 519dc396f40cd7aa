use Rattle.std.proofs.Common.{List, get_or, subst}
use Rattle.std.proofs.lemmas.List.{take_all}
use Rattle.rmt_book.specs.declared.spot.BookSpot.{BookSpot}
use Rattle.rmt_update.specs.NextIndex.{AreSeenSpots}
use Rattle.rmt_update.proofs.EnteringLaws.{there-within}
use Rattle.rmt_update.proofs.book.next_index.keep_seen.Goals as goal

abbrev none : BookSpot
none = record { table = 0; at = record { part = 0; cell = 0 } }

pub kept_at-requires-clause-table : goal.kept_at-requires-clause-table
kept_at-requires-clause-table c = there-within c.args.tables.now (get_or c.args.among.now c.loop-spot.spot-index none) (c.requires c.loop-spot.spot-index none c.loop-spot-test.true)

pub kept_at-requires-clause-part : goal.kept_at-requires-clause-part
kept_at-requires-clause-part c = c.requires c.loop-spot.spot-index none c.loop-spot-test.true

pub returns : goal.returns
returns c =
    subst (λ (ss : List BookSpot). AreSeenSpots c.args.odd c.args.tables.now ss c.args.spots.now c.loop-spot.spots) (take_all c.loop-spot.spot-index c.args.among.now c.loop-spot-test.false) c.loop-spot.invariant
