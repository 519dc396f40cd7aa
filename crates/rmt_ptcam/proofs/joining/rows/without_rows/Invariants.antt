use Rattle.std.proofs.Common.{◌≡◌, [], take}
use Rattle.rmt_ptcam.specs.Grouping.{groups_from}
use Rattle.rmt_ptcam.proofs.joining.rows.without_rows.Given as goal

abbrev pub invariant-loop-state : goal.invariant-loop-state
invariant-loop-state l = l.groups.items ≡ groups_from [] 0 (take l.state-index l.states)
