use Rattle.std.proofs.Common.{◌*◌, ◌==◌, arith}
use Rattle.std.specs.Prelude.{bit_and}
use Rattle.rmt_memory.proofs.SliceLaws.{bits-below, bits-more}
use Rattle.rmt_memory.proofs.row_bits.set_nibble.Goals as goal

pub set_bit-requires-clause-vector : goal.set_bit-requires-clause-vector
set_bit-requires-clause-vector c =
    omega (arith, bits-below c.args.width (16 * c.args.at) 16 c.loop-x.x (omega arith), c.loop-x.invariant.size, c.requires.within)

pub loop-x-preserved : goal.loop-x-preserved
loop-x-preserved c =
    bits-more c.args.width c.args.row (16 * c.args.at) 16 c.loop-x.x (λ x. bit_and x c.args.mask == c.args.value) c.args.bits.now c.loop-x.bits c.set_bit.new.bits
    c.requires.row (omega arith) c.loop-x.invariant c.set_bit.ensures.size c.set_bit.ensures.set c.set_bit.ensures.others
