use Rattle.std.proofs.Common.{◌≡◌, length, take}
use Rattle.rmt_ptcam.specs.Grouping.{all_rows}
use Rattle.rmt_ptcam.proofs.joining.in_place.count_all.Given as goal

abbrev pub invariant-loop-group : goal.invariant-loop-group
invariant-loop-group l = l.count ≡ length (all_rows (take l.group-index l.groups))
