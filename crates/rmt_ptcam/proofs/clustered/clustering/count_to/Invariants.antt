use Rattle.std.proofs.Common.{◌≡◌, ◌≤◌, take, length}
use Rattle.std.specs.List.{filter}
use Rattle.rmt_ptcam.specs.Clustering.{goes_to}
use Rattle.rmt_ptcam.proofs.clustered.clustering.count_to.Given as goal

abbrev pub invariant-loop-target : goal.invariant-loop-target
invariant-loop-target l = record { so_far : l.count ≡ length (filter (goes_to l.header) (take l.target-index l.targets)); few : l.count ≤ l.target-index }
