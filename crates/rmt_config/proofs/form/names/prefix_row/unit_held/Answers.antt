use Rattle.std.proofs.Common.{arith}
use Rattle.rmt_config.specs.Types.{TcamRow}
use Rattle.rmt_config.specs.Cells.{tcam_row}
use Rattle.rmt_config.proofs.PrefixRowLaws.{unit-so_far, values-within}
use Rattle.rmt_config.proofs.form.names.prefix_row.unit_held.Goals as goal

pub with_word-key-requires : goal.with_word-key-requires
with_word-key-requires c =
    let l = c.loop-left in
    let values = tcam_row (λ (t : TcamRow). t.value) c.args.rows.now in
    let so_far = unit-so_far values c.args.row c.args.blocks.now l.left l.key c.row_compared-word.result.value c.loop-left-test.true l.invariant.within l.invariant.key c.row_compared-word.ensures.value in
    omega (arith, so_far, values-within c.args.rows.now c.args.row c.args.blocks.now c.requires.rows.within, c.requires.short)

pub with_word-mask-requires : goal.with_word-mask-requires
with_word-mask-requires c =
    let l = c.loop-left in
    let masks = tcam_row (λ (t : TcamRow). t.mask) c.args.rows.now in
    omega (arith, unit-so_far masks c.args.row c.args.blocks.now l.left l.mask c.row_compared-word.result.mask c.loop-left-test.true l.invariant.within l.invariant.mask c.row_compared-word.ensures.mask, c.requires.short)
