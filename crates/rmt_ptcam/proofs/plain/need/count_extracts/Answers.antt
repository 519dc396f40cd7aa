use Rattle.std.proofs.Common.{arith}
use Rattle.rmt_ptcam.proofs.NeedLaws.{few_pieces}
use Rattle.rmt_ptcam.proofs.plain.need.count_extracts.Goals as goal

pub overflow_add-count : goal.overflow_add-count
overflow_add-count c =
    omega (arith, c.width_of.ensures.narrow, c.from.ensures, c.div_ceil-count.ensures, c.loop-field.invariant, few_pieces c.args.program.now c.args.header.now.fields, c.requires.short)
