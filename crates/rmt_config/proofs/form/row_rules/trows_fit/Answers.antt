use Rattle.std.proofs.Common.{◌<◌, get_or, arith}
use Rattle.rmt_config.specs.Types.{TcamRow}
use Rattle.rmt_config.specs.StageForm.{trow_is_formed}
use Rattle.rmt_config.proofs.RowForm.{all_done, all_step, trow_passes}
use Rattle.rmt_config.proofs.form.row_rules.trows_fit.Goals as goal

pub loop-row-preserved : goal.loop-row-preserved
loop-row-preserved c =
    let d : TcamRow = record { block = 0; row = 0; value = 0; mask = 0 } in
    let row = get_or c.args.rows.now c.loop-row.row-index d in
    let lt : row.block < 256 = omega arith in
    all_step (trow_is_formed c.args.units.now) c.args.rows.now c.loop-row.row-index d _ c.loop-row-test.true
    (trow_passes c.args.units.now row c.mark_tcam.new.table lt (c.mark_tcam.ensures row.block lt) c.if-row-ge2048.false c.if-not-table-row.false c.if-row-eq0.false c.if-row.false)
    c.loop-row.invariant

pub returns : goal.returns
returns c = all_done (trow_is_formed c.args.units.now) c.args.rows.now c.loop-row.row-index _ c.loop-row-test.false c.loop-row.invariant
