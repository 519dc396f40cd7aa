use Rattle.std.proofs.Common.{◌≡◌, take}
use Rattle.rmt_ptcam.specs.Grouping.{entries_of}
use Rattle.rmt_ptcam.specs.Joining.{ends_open}
use Rattle.rmt_ptcam.proofs.joining.in_place.ends_open.Given as goal

abbrev pub invariant-loop-row : goal.invariant-loop-row
invariant-loop-row l = l.open ≡ ends_open (entries_of (take l.row-index l.rows))
