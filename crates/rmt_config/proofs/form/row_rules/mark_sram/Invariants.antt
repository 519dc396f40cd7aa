use Rattle.std.proofs.Common.{◌≡◌, ℕ, ◌<◌, ◌||◌, false, take, get_or}
use Rattle.std.specs.List.{flat_map}
use Rattle.rmt_config.specs.StageForm.{is_listed, sram_blocks}
use Rattle.rmt_config.proofs.form.row_rules.mark_sram.Given as goal

abbrev pub invariant-loop-unit : goal.invariant-loop-unit
invariant-loop-unit l =
    (b : ℕ) → b < 256 → get_or l.table b false ≡ (get_or l.fn.table b false || is_listed b (flat_map sram_blocks (take l.unit-index l.units)))
