use Rattle.std.proofs.Common.{ℕ, ◌<◌, ◌≤◌}
use Rattle.rmt_memory.specs.Searching.{HasCell}
use Rattle.rmt_memory.proofs.exact.first_with.Given as goal

abbrev pub invariant-loop-at : goal.invariant-loop-at
invariant-loop-at l = (j : ℕ) → l.from ≤ j → j < l.at → HasCell l.cells l.sight l.key j → ⊥
