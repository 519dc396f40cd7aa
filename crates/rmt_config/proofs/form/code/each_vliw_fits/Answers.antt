use Rattle.std.proofs.Common.{Bool, sym, ap, ◌∙◌}
use Rattle.rmt_config.specs.CodeForm.{vliw_is_formed}
use Rattle.rmt_config.specs.Types.{Vliw}
use Rattle.rmt_config.proofs.RowForm.{all_done, all_step, all_stop}
use Rattle.rmt_config.proofs.form.code.each_vliw_fits.Goals as goal

pub returns-then-not-vliw_fits : goal.returns-then-not-vliw_fits
returns-then-not-vliw_fits c =
    let fits : Vliw → Bool = vliw_is_formed c.args.place in
    all_stop fits c.args.code.now c.loop-vliw.vliw-index c.vliw-item.result _ c.loop-vliw-test.true (ap fits (sym c.vliw-item.is) ∙ sym c.vliw_fits.ensures ∙ c.if-not-vliw_fits.true) c.loop-vliw.invariant

pub loop-vliw-preserved : goal.loop-vliw-preserved
loop-vliw-preserved c =
    let fits : Vliw → Bool = vliw_is_formed c.args.place in
    all_step fits c.args.code.now c.loop-vliw.vliw-index c.vliw-item.result _ c.loop-vliw-test.true (ap fits (sym c.vliw-item.is) ∙ sym c.vliw_fits.ensures ∙ c.if-not-vliw_fits.false) c.loop-vliw.invariant

pub returns : goal.returns
returns c = all_done (vliw_is_formed c.args.place) c.args.code.now c.loop-vliw.vliw-index _ c.loop-vliw-test.false c.loop-vliw.invariant
