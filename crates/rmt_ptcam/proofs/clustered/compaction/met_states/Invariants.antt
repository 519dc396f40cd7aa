use Rattle.std.proofs.Common.{◌≡◌, take}
use Rattle.rmt_ptcam.specs.Clustering.{met_states}
use Rattle.rmt_ptcam.proofs.clustered.compaction.met_states.Given as goal

abbrev pub invariant-loop-entry : goal.invariant-loop-entry
invariant-loop-entry l = l.met ≡ met_states (take l.entry-index l.entries)
