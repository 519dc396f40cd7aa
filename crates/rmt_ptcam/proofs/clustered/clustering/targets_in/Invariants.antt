use Rattle.std.proofs.Common.{◌≡◌, take}
use Rattle.std.specs.List.{flat_map}
use Rattle.rmt_ptcam.specs.Clustering.{targets_of}
use Rattle.rmt_ptcam.proofs.clustered.clustering.targets_in.Given as goal

abbrev pub invariant-loop-header : goal.invariant-loop-header
invariant-loop-header l = l.targets ≡ flat_map targets_of (take l.header-index l.header-items)
