use Rattle.std.proofs.Common.{true, ◌&&◌, sym, ap, ◌∙◌}
use Rattle.rmt_config.specs.CodeForm.{vliw_is_formed}
use Rattle.rmt_config.proofs.CodeLaws.{code_before_last, code_breaks_early}
use Rattle.rmt_config.proofs.form.code.slot_code_fits.Goals as goal

pub returns-then-each_vliw_fits : goal.returns-then-each_vliw_fits
returns-then-each_vliw_fits c =
    c.vliw_fits.ensures
    ∙ ap (λ b. b && vliw_is_formed (record { held = c.args.slot.now.held; is_default = true }) c.index-code-actions.result) c.if-each_vliw_fits.ensures
    ∙ sym (code_before_last _ _ c.args.slot.now.actions c.args.code.now c.index-code-actions.result c.requires c.index-code-actions.is)

pub returns-else-each_vliw_fits : goal.returns-else-each_vliw_fits
returns-else-each_vliw_fits c =
    c.if-each_vliw_fits.false ∙ sym (code_breaks_early _ _ c.args.slot.now.actions c.args.code.now (sym c.if-each_vliw_fits.ensures))
