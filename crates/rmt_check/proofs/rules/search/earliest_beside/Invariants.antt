use Rattle.std.proofs.Common.{◌≡◌, take, zip}
use Rattle.std.specs.List.{flat_map}
use Rattle.rmt_check.specs.Rules.{earliest}
use Rattle.rmt_check.proofs.rules.search.earliest_beside.Given as goal

abbrev pub invariant-loop-number : goal.invariant-loop-number
invariant-loop-number g l = l.first ≡ earliest (flat_map (g.F.PairFlaw.places l.shared) (take l.number (zip l.items l.others)))
