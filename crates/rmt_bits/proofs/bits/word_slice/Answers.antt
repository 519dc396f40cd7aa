use Rattle.std.proofs.Common.{◌≡◌, ◌*◌, ◌/◌, ◌%◌, ◌^◌, ◌-◌, ◌≤◌, arith}
use Rattle.std.proofs.Math.Pow.{pow_mono}
use Rattle.std.proofs.lemmas.Nat.{and_mask}
use Rattle.rmt_bits.proofs.bits.word_slice.Goals as goal

pub returns-clause-value : goal.returns-clause-value
returns-clause-value c =
    let short : c.args.len ≤ 32 = omega arith in
    let room : 2 ^ c.args.len ≤ 2 ^ 32 = pow_mono short in
    let mask : 1 * 2 ^ c.args.len % 18446744073709551616 - 1 ≡ 2 ^ c.args.len - 1 = omega (arith, room) in
    rw (mask, c.from.ensures) (and_mask (c.args.v / 2 ^ c.args.low) c.args.len)
