use Rattle.std.proofs.Common.{◌≡◌, drop}
use Rattle.std.specs.List.{list_all}
use Rattle.rmt_ptcam.specs.Grouping.{entries_of}
use Rattle.rmt_ptcam.specs.Joining.{is_light}
use Rattle.rmt_ptcam.proofs.joining.in_place.all_light.Given as goal

abbrev pub invariant-loop-row : goal.invariant-loop-row
invariant-loop-row l = list_all (is_light l.first) (entries_of l.rows) ≡ list_all (is_light l.first) (entries_of (drop l.row-index l.rows))
