use Rattle.std.proofs.Common.{◌<◌, get_or, arith}
use Rattle.rmt_config.specs.Types.{SramRow}
use Rattle.rmt_config.specs.StageForm.{srow_is_formed}
use Rattle.rmt_config.proofs.RowForm.{all_done, all_step, srow_passes}
use Rattle.rmt_config.proofs.form.row_rules.srows_fit.Goals as goal

pub loop-row-preserved : goal.loop-row-preserved
loop-row-preserved c =
    let d : SramRow = record { block = 0; row = 0; bits = 0 } in
    let row = get_or c.args.rows.now c.loop-row.row-index d in
    let lt : row.block < 256 = omega arith in
    all_step (srow_is_formed c.args.units.now) c.args.rows.now c.loop-row.row-index d _ c.loop-row-test.true
    (srow_passes c.args.units.now row c.mark_sram.new.table lt (c.mark_sram.ensures row.block lt) c.if-row-ge1024.false c.if-not-table-row.false c.if-row-eq0.false)
    c.loop-row.invariant

pub returns : goal.returns
returns c = all_done (srow_is_formed c.args.units.now) c.args.rows.now c.loop-row.row-index _ c.loop-row-test.false c.loop-row.invariant
