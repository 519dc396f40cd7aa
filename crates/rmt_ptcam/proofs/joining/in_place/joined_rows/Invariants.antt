use Rattle.std.proofs.Common.{◌≡◌, map, take}
use Rattle.rmt_ptcam.specs.Joining.{joined_row}
use Rattle.rmt_ptcam.proofs.joining.in_place.joined_rows.Given as goal

abbrev pub invariant-loop-row : goal.invariant-loop-row
invariant-loop-row l = l.rows ≡ map (joined_row l.here l.state.lookups l.first) (take l.row-index l.row-items)
