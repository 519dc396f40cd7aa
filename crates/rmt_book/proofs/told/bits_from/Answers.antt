use Rattle.std.proofs.Common.{◌∙◌, arith}
use Rattle.rmt_bits.proofs.ByteLaws.{bits-above}
use Rattle.rmt_book.proofs.ToldLaws.{bits-there}
use Rattle.rmt_book.proofs.told.bits_from.Goals as goal

pub returns-then-all-low : goal.returns-then-all-low
returns-then-all-low c = bits-above c.args.bytes.now c.args.low c.args.len (λ i. (c.type_inv.bytes i).fits) (omega arith)

pub returns : goal.returns
returns c = c.bits_of_bytes.ensures ∙ bits-there c.args.bytes.now c.args.low c.args.len c.min-count.result (λ i. (c.type_inv.bytes i).fits) (omega arith) (omega arith)
