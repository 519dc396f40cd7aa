use Rattle.std.proofs.Common.{sym, ◌∙◌}
use Rattle.std.proofs.lemmas.Bool.{le-ltb}
use Rattle.rmt_bits.proofs.BitLaws.{no_bit-above}
use Rattle.rmt_plain.proofs.control.is_in.Goals as goal

pub returns-else-outcome-lt16 : goal.returns-else-outcome-lt16
returns-else-outcome-lt16 c = le-ltb c.args.outcome 16 c.if-outcome-lt16.false ∙ sym (no_bit-above c.args.mask c.args.outcome c.ranges.mask.fits c.if-outcome-lt16.false)
