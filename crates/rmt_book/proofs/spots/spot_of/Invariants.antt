use Rattle.std.proofs.Common.{◌≡◌, drop}
use Rattle.rmt_book.specs.Spots.{spot_from}
use Rattle.rmt_book.proofs.spots.spot_of.Given as goal

-- the parts so far don't have the cell
abbrev pub invariant-loop-at : goal.invariant-loop-at
invariant-loop-at l = spot_from 0 l.parts l.number ≡ spot_from l.at (drop l.at l.parts) l.left
