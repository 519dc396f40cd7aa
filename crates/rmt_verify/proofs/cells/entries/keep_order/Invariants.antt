use Rattle.std.proofs.Common.{ℕ, ◌<◌, get_or}
use Rattle.rmt_verify.specs.CellsHeld.{KeepsOrder}
use Rattle.rmt_verify.proofs.cells.entries.keep_order.Given as goal

-- each number so far and each later one
abbrev pub invariant-loop-at : goal.invariant-loop-at
invariant-loop-at l = (i j : ℕ) → i < j → j < l.at → KeepsOrder l.kind l.entries (get_or l.numbers i 0) (get_or l.numbers j 0)
