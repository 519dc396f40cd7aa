use Rattle.std.proofs.Common.{◌≡◌, map, min, sum, take}
use Rattle.rmt_check.proofs.rules.sums.sum_up_to.Given as goal

abbrev pub invariant-loop-item : goal.invariant-loop-item
invariant-loop-item g l = l.sum ≡ min (sum (map (g.T.Wide.width_in l.shared) (take l.item-index l.items))) l.limit
