use Rattle.std.proofs.Common.{◌≡◌, ℕ, ◌<◌, ◌||◌, false, take, get_or}
use Rattle.rmt_config.specs.StageForm.{is_listed}
use Rattle.rmt_config.proofs.form.row_rules.mark.Given as goal

abbrev pub invariant-loop-block : goal.invariant-loop-block
invariant-loop-block l =
    (b : ℕ) → b < 256 → get_or l.table b false ≡ (get_or l.fn.table b false || is_listed b (take l.block-index l.blocks))
