use Rattle.std.proofs.Common.{take}
use Rattle.rmt_update.specs.NextIndex.{AreSeenSpots}
use Rattle.rmt_update.proofs.book.next_index.keep_seen.Given as goal

-- without the cells so far that the version doesn't see
abbrev pub invariant-loop-spot : goal.invariant-loop-spot
invariant-loop-spot l = AreSeenSpots l.odd l.tables (take l.spot-index l.among) l.fn.spots l.spots
