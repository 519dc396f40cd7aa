use Rattle.rmt_bits.specs.Bits.{number_of}
use Rattle.rmt_pack.specs.Rows.{blocks_of}
use Rattle.rmt_pack.proofs.RecordLaws.{record-put}
use Rattle.rmt_pack.proofs.record.put_record.Goals as goal

pub returns-clause-bits : goal.returns-clause-bits
returns-clause-bits c =
    let s = c.args.shape.now in
    let spot = c.spot_of-spot.result in
    record-put (blocks_of c.args.rows.now) (blocks_of c.write_run.new.rows) s c.args.cell (number_of c.args.held.now) spot.first spot.row spot.low c.record_blocks-blocks.result.now
    c.spot_of-spot.ensures.first c.spot_of-spot.ensures.row c.spot_of-spot.ensures.low c.record_blocks-blocks.ensures.part c.write_run.ensures
