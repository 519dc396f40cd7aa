use Rattle.std.proofs.Common.{◌≡◌, drop, max}
use Rattle.std.specs.List.{fold}
use Rattle.rmt_config.specs.Types.{Unit}
use Rattle.rmt_config.specs.Resources.{unit_width, greatest_by}
use Rattle.rmt_config.proofs.limits.total.greatest_width.Given as goal

abbrev pub invariant-loop-unit : goal.invariant-loop-unit
invariant-loop-unit l = fold (λ most (u : Unit). max most (unit_width u)) l.most (drop l.unit-index l.units) ≡ greatest_by unit_width l.units
