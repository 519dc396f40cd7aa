use Rattle.std.proofs.Common.{vec_len}
use Rattle.rmt_update.proofs.EnteringLaws.{AreTurning}
use Rattle.rmt_update.proofs.book.turning.turn_all.Given as goal

-- the turns that were made
abbrev pub invariant-loop-turn : goal.invariant-loop-turn
invariant-loop-turn l = AreTurning l.fn.tables.items l.tables.items l.fn.turns.items l.left.items

-- those that are left
abbrev pub decreases-loop-turn : goal.decreases-loop-turn
decreases-loop-turn l = vec_len l.left
