use Rattle.std.proofs.Common.{◌≡◌, ◌≤◌}
use Rattle.rmt_bits.specs.Members.{is_among}
use Rattle.rmt_ptcam.specs.Clustering.{number_in}
use Rattle.rmt_ptcam.proofs.clustered.compaction.number_in.Given as goal

abbrev pub invariant-loop-other : goal.invariant-loop-other
invariant-loop-other l = record { so_far : l.count ≡ number_in (is_among l.met) l.other; few : l.count ≤ l.other }
