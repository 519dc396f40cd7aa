use Rattle.std.proofs.Common.{◌-◌, ◌≤◌, length}
use Rattle.rmt_tests.proofs.tests.pieces.in_pieces.Given as goal

-- no more bytes were taken than stand before `from`
abbrev pub invariant-loop-from : goal.invariant-loop-from
invariant-loop-from l = (l.from ≤ length l.text) × (l.lines.taken ≤ l.from)

abbrev pub decreases-loop-from : goal.decreases-loop-from
decreases-loop-from l = length l.text - l.from
