use Rattle.std.proofs.Common.{◌≡◌, map, take}
use Rattle.rmt_check.proofs.building.mapped.mapped.Given as goal

abbrev pub invariant-loop-item : goal.invariant-loop-item
invariant-loop-item g l = l.built ≡ map (g.U.Build.meant l.shared) (take l.item-index l.items)
