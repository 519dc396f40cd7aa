use Rattle.std.proofs.Common.{◌≡◌, take}
use Rattle.std.specs.List.{enumerate_from, flat_map}
use Rattle.rmt_check.specs.Rules.{earliest, early_targets}
use Rattle.rmt_check.proofs.rules.later.target_not_later.Given as goal

abbrev pub invariant-loop-number : goal.invariant-loop-number
invariant-loop-number g l = l.first ≡ earliest (flat_map (early_targets (g.N.Lookup.text l.names)) (take l.number (enumerate_from 0 l.headers)))
