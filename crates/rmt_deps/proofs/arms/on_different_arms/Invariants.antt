use Rattle.std.proofs.Common.{◌≡◌, false, take}
use Rattle.std.specs.List.{list_any}
use Rattle.rmt_deps.specs.Edges.{are_other_arms}
use Rattle.rmt_deps.proofs.arms.on_different_arms.Given as goal

-- none of the guards so far has another arm
abbrev pub invariant-loop-guard : goal.invariant-loop-guard
invariant-loop-guard l = list_any (λ g. list_any (are_other_arms g) l.second) (take l.guard-index l.first) ≡ false
