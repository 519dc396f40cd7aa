use Rattle.std.proofs.Common.{◌≡◌, ◌++◌, drop, map, take}
use Rattle.rmt_ptcam.specs.Grouping.{widened_row}
use Rattle.rmt_ptcam.proofs.joining.in_place.widen.Given as goal

abbrev pub invariant-loop-row : goal.invariant-loop-row
invariant-loop-row l = l.rows ≡ map (widened_row l.from l.to) (take l.row-index l.initial.rows) ++ drop l.row-index l.initial.rows
