use Rattle.std.proofs.Common.{◌+◌, ◌*◌, ◌<◌, length, arith}
use Rattle.rmt_filling.specs.Listing.{values_of, masks_of}
use Rattle.rmt_filling.proofs.GridLaws.{row_in-set_same, row_in-set_other}
use Rattle.rmt_filling.proofs.tcam.TcamRows.set_row.Goals as goal

pub returns-clause-value : goal.returns-clause-value
unfolding values_of
returns-clause-value c =
    let there : c.args.block * 2048 + c.args.row < length c.args.self.now.values.items = omega (arith, c.args.self.now.values_whole) in
    row_in-set_same 2048 c.args.self.now.values.items c.args.block c.args.row c.args.word.value c.requires.row there

pub returns-clause-mask : goal.returns-clause-mask
unfolding masks_of
returns-clause-mask c =
    let there : c.args.block * 2048 + c.args.row < length c.args.self.now.masks.items = omega (arith, c.args.self.now.masks_whole) in
    row_in-set_same 2048 c.args.self.now.masks.items c.args.block c.args.row c.args.word.mask c.requires.row there

pub returns-clause-other_values : goal.returns-clause-other_values
unfolding values_of
returns-clause-other_values c b r other = row_in-set_other 2048 c.args.self.now.values.items c.args.block c.args.row c.args.word.value b r c.requires.row other

pub returns-clause-other_masks : goal.returns-clause-other_masks
unfolding masks_of
returns-clause-other_masks c b r other = row_in-set_other 2048 c.args.self.now.masks.items c.args.block c.args.row c.args.word.mask b r c.requires.row other
