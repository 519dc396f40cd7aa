use Rattle.std.proofs.Common.{◌≡◌, ◌++◌, drop}
use Rattle.rmt_bits.specs.Members.{is_among}
use Rattle.rmt_ptcam.specs.Clustering.{states_kept}
use Rattle.rmt_ptcam.proofs.clustered.compaction.states_kept.Given as goal

abbrev pub invariant-loop-number : goal.invariant-loop-number
invariant-loop-number l = l.kept ++ states_kept (is_among l.met) l.number (drop l.number l.states) ≡ states_kept (is_among l.met) 0 l.states
