use Rattle.std.proofs.Common.{◌≡◌, ◌+◌, ◌≤◌, length}
use Rattle.rmt_tests.proofs.tests.pieces.take_all.Given as goal

-- as many bytes were taken as stand before `from`
abbrev pub invariant-loop-turn : goal.invariant-loop-turn
invariant-loop-turn l = (l.from ≤ length l.piece) × (l.lines.taken ≡ l.fn.lines.taken + l.from)
