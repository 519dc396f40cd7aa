use Rattle.std.proofs.Common.{◌≡◌, take}
use Rattle.rmt_ptcam.specs.Grouping.{groups_from}
use Rattle.rmt_ptcam.specs.Joining.{rows_of}
use Rattle.rmt_ptcam.proofs.joining.rows.grouped.Given as goal

abbrev pub invariant-loop-number : goal.invariant-loop-number
invariant-loop-number l = l.groups.items ≡ groups_from (take l.number (rows_of l.parser)) 0 l.parser.states
