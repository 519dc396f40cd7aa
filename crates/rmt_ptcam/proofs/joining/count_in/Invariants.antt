use Rattle.std.proofs.Common.{◌≡◌, ◌≤◌, take, length}
use Rattle.rmt_ptcam.specs.Joining.{entries_in}
use Rattle.rmt_ptcam.proofs.joining.count_in.Given as goal

abbrev pub invariant-loop-entry : goal.invariant-loop-entry
invariant-loop-entry l = record { so_far : l.count ≡ length (entries_in l.state (take l.entry-index l.entries)); few : l.count ≤ l.entry-index }
