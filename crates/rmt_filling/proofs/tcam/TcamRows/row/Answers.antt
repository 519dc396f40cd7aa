use Rattle.std.proofs.Common.{arith}
use Rattle.rmt_pack.proofs.RowLaws.{row_read}
use Rattle.rmt_filling.specs.Listing.{values_of, masks_of}
use Rattle.rmt_filling.proofs.tcam.TcamRows.row.Goals as goal

pub returns-clause-value : goal.returns-clause-value
unfolding values_of
returns-clause-value c = row_read 2048 c.args.self.now.values.items c.args.block c.args.row c.index.result.now c.requires.row (omega (arith, c.args.self.now.values_whole)) c.index.ensures

pub returns-clause-mask : goal.returns-clause-mask
unfolding masks_of
returns-clause-mask c = row_read 2048 c.args.self.now.masks.items c.args.block c.args.row c.index-2.result.now c.requires.row (omega (arith, c.args.self.now.masks_whole)) c.index-2.ensures
