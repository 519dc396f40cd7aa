use Rattle.rmt_pack.specs.Rows.{blocks_of}
use Rattle.rmt_pack.proofs.RecordLaws.{record-read}
use Rattle.rmt_pack.proofs.record.read_record.Goals as goal

pub returns : goal.returns
returns c =
    let s = c.args.shape.now in
    let spot = c.spot_of-spot.result in
    record-read (blocks_of c.args.rows.now) s c.args.cell spot.first spot.row spot.low c.record_blocks-blocks.result.now c.read_run.new.bytes c.requires.shape
    c.spot_of-spot.ensures.first c.spot_of-spot.ensures.row c.spot_of-spot.ensures.low c.record_blocks-blocks.ensures.part c.read_run.ensures
