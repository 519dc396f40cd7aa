use Rattle.std.proofs.Common.{◌≡◌, false, take}
use Rattle.std.specs.List.{list_any}
use Rattle.rmt_deps.specs.Edges.{are_other_arms}
use Rattle.rmt_deps.proofs.arms.is_other_arm.Given as goal

-- none of the guards so far chooses another arm
abbrev pub invariant-loop-other : goal.invariant-loop-other
invariant-loop-other l = list_any (are_other_arms l.guard) (take l.other-index l.others) ≡ false
