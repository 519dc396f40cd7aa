use Rattle.std.proofs.Common.{ℕ, ◌*◌, ◌<◌}
use Rattle.rmt_memory.specs.Slicing.{OnIn}
use Rattle.rmt_memory.proofs.sliced.Sliced.first_left.Given as goal

abbrev pub invariant-loop-at : goal.invariant-loop-at
invariant-loop-at l = (r : ℕ) → r < 64 * l.at → OnIn l.self l.sight l.vectors r → ⊥
