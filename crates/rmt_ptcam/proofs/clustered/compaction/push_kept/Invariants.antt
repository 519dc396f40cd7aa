use Rattle.std.proofs.Common.{map, take}
use Rattle.std.specs.List.{filter}
use Rattle.rmt_bits.specs.Members.{is_among}
use Rattle.rmt_ptcam.specs.Adding.{Adds}
use Rattle.rmt_ptcam.specs.Joining.{Row, rows_of}
use Rattle.rmt_ptcam.specs.Clustering.{renamed}
use Rattle.rmt_ptcam.proofs.clustered.compaction.push_kept.Given as goal

abbrev pub invariant-loop-number : goal.invariant-loop-number
invariant-loop-number l = Adds (map (renamed (is_among l.met)) (filter (λ (x : Row). is_among l.met x.entry.state) (take l.number (rows_of l.parser)))) l.initial.entries l.entries l.initial.tails l.tails
