use Rattle.std.proofs.lemmas.Option.{slice_get-get_or}
use Rattle.rmt_update.specs.Differences.{changes_in}
use Rattle.rmt_update.proofs.TurnWriteLaws.{recent-end, recent-more, recent-start}
use Rattle.rmt_update.proofs.book.leaving.put_recent.Goals as goal

pub loop-spot-init : goal.loop-spot-init
loop-spot-init c = recent-start c.args.tables.now c.args.odd c.args.gone.now c.requires.slots (changes_in c.args.changes.now.items) c.args.spots.now

pub loop-spot-preserved : goal.loop-spot-preserved
loop-spot-preserved c =
    recent-more c.args.tables.now c.args.odd c.args.gone.now c.requires.slots (changes_in c.args.changes.now.items) (changes_in c.loop-spot.changes.items) (changes_in c.put_left.new.changes.items) c.args.spots.now c.loop-spot.spot-index _
    (slice_get-get_or c.args.spots.now c.loop-spot.spot-index _ c.loop-spot-test.true) c.loop-spot.invariant c.in_ok-put_left.ensures

pub returns : goal.returns
returns c = recent-end c.args.tables.now c.args.odd c.args.gone.now c.requires.slots (changes_in c.args.changes.now.items) (changes_in c.loop-spot.changes.items) c.args.spots.now c.loop-spot.spot-index c.loop-spot-test.false c.loop-spot.invariant
