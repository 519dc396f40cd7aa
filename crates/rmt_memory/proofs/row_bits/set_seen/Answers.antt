use Rattle.std.proofs.Common.{◌*◌, ap, ◌∙◌, arith}
use Rattle.rmt_memory.specs.Sights.{seen_by}
use Rattle.rmt_memory.specs.Slicing.{bit_if}
use Rattle.rmt_memory.proofs.SliceLaws.{bits-below, bits-more}
use Rattle.rmt_memory.proofs.row_bits.set_seen.Goals as goal

pub set_bit-requires-clause-vector : goal.set_bit-requires-clause-vector
set_bit-requires-clause-vector c =
    omega (arith, bits-below c.args.width (160 * c.args.words) 3 c.loop-sight.sight (omega arith), c.loop-sight.invariant.size, c.requires.all)

pub loop-sight-preserved : goal.loop-sight-preserved
loop-sight-preserved c =
    bits-more c.args.width c.args.row (160 * c.args.words) 3 c.loop-sight.sight (λ sight. seen_by sight c.args.head) c.args.bits.now c.loop-sight.bits c.set_bit.new.bits
    c.requires.row (omega arith) c.loop-sight.invariant c.set_bit.ensures.size (c.set_bit.ensures.set ∙ ap bit_if c.is_seen.ensures) c.set_bit.ensures.others
