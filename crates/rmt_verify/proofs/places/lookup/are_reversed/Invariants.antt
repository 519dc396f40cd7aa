use Rattle.std.proofs.Common.{◌≡◌, take, reverse}
use Rattle.rmt_verify.proofs.places.lookup.are_reversed.Given as goal

abbrev pub invariant-loop-at : goal.invariant-loop-at
invariant-loop-at l = take l.at l.lanes ≡ take l.at (reverse l.others)
