use Rattle.rmt_ptcam.proofs.InPlaceLaws.{open_more}
use Rattle.rmt_ptcam.proofs.joining.in_place.ends_open.Goals as goal

pub loop-row-preserved : goal.loop-row-preserved
loop-row-preserved c = open_more c.args.rows.now c.loop-row.row-index c.row-item.result c.loop-row-test.true c.row-item.is
