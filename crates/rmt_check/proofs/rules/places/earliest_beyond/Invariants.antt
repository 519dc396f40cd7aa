use Rattle.std.proofs.Common.{◌≡◌, map, take}
use Rattle.rmt_check.specs.Rules.{earliest}
use Rattle.rmt_check.proofs.rules.places.earliest_beyond.Given as goal

abbrev pub invariant-loop-item : goal.invariant-loop-item
invariant-loop-item g l = l.first ≡ earliest (map g.T.Placed.place_of (take l.item-index l.further))
