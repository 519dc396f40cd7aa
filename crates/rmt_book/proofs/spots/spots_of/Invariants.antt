use Rattle.std.proofs.Common.{◌≡◌, take}
use Rattle.rmt_book.specs.Spots.{spots_at}
use Rattle.rmt_book.proofs.spots.spots_of.Given as goal

-- the spots so far
abbrev pub invariant-loop-number : goal.invariant-loop-number
invariant-loop-number l = l.spots.items ≡ spots_at l.parts (take l.number-index l.numbers)
