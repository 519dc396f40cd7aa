use Rattle.std.proofs.Common.{sym, ap, ◌∙◌, w64}
use Rattle.std.proofs.lemmas.Nat.Bits.{bit_at_set_same, bit_at_set_other, bit_at_clear_same, bit_at_clear_other}
use Rattle.rmt_memory.specs.Slicing.{bit_if}
use Rattle.rmt_memory.proofs.row_bits.with_bit.Goals as goal

pub returns-then-on-clause-set : goal.returns-then-on-clause-set
returns-then-on-clause-set c = bit_at_set_same w64 c.args.word c.args.bit c.requires ∙ sym (ap bit_if c.if-on.true)

pub returns-then-on-clause-others : goal.returns-then-on-clause-others
returns-then-on-clause-others c = λ i lt apart. bit_at_set_other w64 c.args.word c.args.bit c.requires i apart

pub returns-else-on-clause-set : goal.returns-else-on-clause-set
returns-else-on-clause-set c = bit_at_clear_same w64 c.args.word c.args.bit c.requires ∙ sym (ap bit_if c.if-on.false)

pub returns-else-on-clause-others : goal.returns-else-on-clause-others
returns-else-on-clause-others c = λ i lt apart. bit_at_clear_other w64 c.args.word c.args.bit c.requires i lt apart
