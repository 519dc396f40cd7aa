use Rattle.rmt_bits.specs.Words.{word_size as word_size_of}
use Rattle.rmt_bits.proofs.BitLaws.{deposit-lt}
use Rattle.rmt_chip.proofs.compute.written.Goals as goal

pub invariant_of-result : goal.invariant_of-result
invariant_of-result c =
    let h = deposit-lt c.get-old.result c.args.op.low c.args.op.len c.computed-value.result (word_size_of c.args.op.word) c.requires.fits.within c.get-old.ensures.within c.computed-value.ensures.within in
    record { exists = c.requires.fits.exists; within = rw c.word_deposit.ensures h }
