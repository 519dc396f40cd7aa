use Rattle.std.proofs.Common.{arith}
use Rattle.rmt_pack.specs.Rows.{blocks_of}
use Rattle.rmt_pack.proofs.RowLaws.{row_read}
use Rattle.rmt_pack.proofs.rows.Rows.row.Goals as goal

pub returns-clause-value : goal.returns-clause-value
unfolding blocks_of
returns-clause-value c = row_read 1024 c.args.self.now.bits.items c.args.block c.args.row c.index.result.now c.requires.row (omega (arith, c.args.self.now.whole)) c.index.ensures
