use Rattle.std.proofs.Common.{◌-◌, ◌*◌, length, ◌∙◌, arith}
use Rattle.rmt_bits.proofs.ByteLaws.{bits-above}
use Rattle.rmt_memory.proofs.WordLaws.{word-is}
use Rattle.rmt_memory.proofs.ternary.word_at.Goals as goal

pub returns-then-bits-low : goal.returns-then-bits-low
returns-then-bits-low c = bits-above c.args.key.now c.args.low 40 (λ i. (c.type_inv.key i).fits) c.if-bits-low.true

pub returns : goal.returns
returns c =
    c.bits_of_bytes.ensures
    ∙ word-is c.args.key.now c.args.low c.min-len.result (8 * length c.args.key.now - c.args.low - c.min-len.result) (λ i. (c.type_inv.key i).fits) c.if-bits-low.false c.min-len.ensures (omega arith)
