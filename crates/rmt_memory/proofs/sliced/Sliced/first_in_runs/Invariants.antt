use Rattle.std.proofs.Common.{ℕ, ◌*◌, ◌<◌}
use Rattle.rmt_memory.specs.Slicing.{OnIn}
use Rattle.rmt_memory.proofs.sliced.Sliced.first_in_runs.Given as goal

abbrev pub invariant-loop-run : goal.invariant-loop-run
invariant-loop-run l = (r : ℕ) → r < 512 * l.run → OnIn l.self l.sight l.vectors r → ⊥
