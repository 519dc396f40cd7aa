use Rattle.std.proofs.Common.{◌≡◌, ◌++◌, map, take}
use Rattle.rmt_ptcam.specs.Types.{Case}
use Rattle.rmt_ptcam.proofs.clustered.clustering.push_targets.Given as goal

abbrev pub invariant-loop-case : goal.invariant-loop-case
invariant-loop-case l = l.targets ≡ l.initial.targets ++ map (λ (c : Case). c.target) (take l.case-index l.case-items)
