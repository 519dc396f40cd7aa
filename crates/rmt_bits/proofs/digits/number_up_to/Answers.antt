use Rattle.std.proofs.Common.{◌<◌, get_or, arith}
use Rattle.rmt_bits.specs.Digits.{appended}
use Rattle.rmt_bits.proofs.DigitLaws.{appended-too_great}
use Rattle.rmt_bits.proofs.digits.number_up_to.Goals as goal

pub returns-in_default : goal.returns-in_default
returns-in_default c fits =
    let base = c.args.base in
    let digits = c.args.digits.now in
    let over : c.args.last < appended base c.loop-digit.value (get_or digits c.loop-digit.digit-index 0) = omega (arith, c.in_default.ensures) in
    let great = appended-too_great base c.loop-digit.value c.loop-digit.digit-index c.args.last digits c.requires c.loop-digit-test.true over in
    omega (arith, c.loop-digit.invariant.number, great)
