use Rattle.std.proofs.Common.{take}
use Rattle.rmt_ptcam.specs.Adding.{Adds}
use Rattle.rmt_ptcam.proofs.joining.rows.push_rows.Given as goal

abbrev pub invariant-loop-row : goal.invariant-loop-row
invariant-loop-row l = Adds (take l.row-index l.rows) l.initial.entries l.entries l.initial.tails l.tails
