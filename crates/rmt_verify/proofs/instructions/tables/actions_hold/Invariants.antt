use Rattle.std.proofs.Common.{◌≡◌, ℕ, ◌+◌, ◌<◌, Some}
use Rattle.std.specs.Prelude.{slice_get}
use Rattle.rmt_config.specs.Life.{code_at}
use Rattle.rmt_vliw.specs.Coded.{IsCodeOf}
use Rattle.rmt_verify.proofs.instructions.tables.actions_hold.Given as goal

-- the instructions of the actions so far
abbrev pub invariant-loop-at : goal.invariant-loop-at
invariant-loop-at l = (i action : ℕ) → i < l.at → slice_get l.actions i ≡ Some action → IsCodeOf l.from.coding.now.program.now l.from.coding.now.places.now action (code_at l.from.stage.now (l.from.first + i))
