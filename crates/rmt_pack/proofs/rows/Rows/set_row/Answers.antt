use Rattle.std.proofs.Common.{◌+◌, ◌*◌, ◌<◌, length, arith}
use Rattle.rmt_pack.specs.Rows.{blocks_of}
use Rattle.rmt_pack.proofs.RowLaws.{row_at-set_same, row_at-set_other}
use Rattle.rmt_pack.proofs.rows.Rows.set_row.Goals as goal

pub returns-clause-row : goal.returns-clause-row
unfolding blocks_of
returns-clause-row c =
    let there : c.args.block * 1024 + c.args.row < length c.args.self.now.bits.items = omega (arith, c.args.self.now.whole) in
    row_at-set_same c.args.self.now.bits.items c.args.block c.args.row c.args.bits c.requires.row there

pub returns-clause-others : goal.returns-clause-others
unfolding blocks_of
returns-clause-others c b r other = row_at-set_other c.args.self.now.bits.items c.args.block c.args.row c.args.bits b r c.requires.row other
