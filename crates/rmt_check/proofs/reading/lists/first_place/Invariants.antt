use Rattle.std.proofs.Common.{◌≡◌, drop}
use Rattle.rmt_check.specs.Reading.{first, place_at}
use Rattle.rmt_check.proofs.reading.lists.first_place.Given as goal

abbrev pub invariant-loop-at : goal.invariant-loop-at
invariant-loop-at l = first (place_at l.wanted) (drop l.at l.trees) ≡ first (place_at l.wanted) l.trees
