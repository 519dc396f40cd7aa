use Rattle.std.proofs.Common.{◌≡◌, take}
use Rattle.std.specs.List.{flat_map}
use Rattle.rmt_check.specs.Rules.{earliest}
use Rattle.rmt_check.proofs.rules.search.earliest_of.Given as goal

abbrev pub invariant-loop-item : goal.invariant-loop-item
invariant-loop-item g l = l.first ≡ earliest (flat_map (g.F.Flaw.places l.shared) (take l.item-index l.items))
