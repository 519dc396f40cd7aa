use Rattle.std.proofs.Common.{◌≡◌, ◌+◌, ◌*◌, ◌/◌, ◌%◌, ◌^◌, ◌-◌, ◌≤◌, ◌<◌, bit_and, refl, arith}
use Rattle.std.proofs.Math.Pow.{pow_mono}
use Rattle.std.proofs.lemmas.Nat.{and_mask}
use Rattle.rmt_bits.specs.Bits.{deposit as deposit_of}
use Rattle.rmt_bits.proofs.BitLaws.{deposit-lt, shl-lt}
use Rattle.rmt_bits.proofs.bits.word_deposit.Goals as goal
use Rattle.rmt_bits.proofs.bits.word_deposit.Goals.{After-from}

-- the three parts are those of the word with the bits in it
parts : (c : After-from) → c.from-old.result / 2 ^ (c.args.low + c.args.len) * 2 ^ (c.args.low + c.args.len) % 18446744073709551616 + c.from.result * 2 ^ c.args.low % 18446744073709551616 + bit_and c.from-old.result (1 * 2 ^ c.args.low % 18446744073709551616 - 1)
    ≡ deposit_of c.args.v c.args.low c.args.len c.args.x
parts c =
    let v = c.args.v in
    let above = c.args.low + c.args.len in
    let short : c.args.low ≤ 32 = omega arith in
    let room : 2 ^ c.args.low ≤ 2 ^ 32 = pow_mono short in
    let mask : 1 * 2 ^ c.args.low % 18446744073709551616 - 1 ≡ 2 ^ c.args.low - 1 = omega (arith, room) in
    let moved : c.args.x * 2 ^ c.args.low < 2 ^ 32 = shl-lt c.args.x c.args.low c.args.len 32 c.requires.within c.requires.small in
    let whole : deposit_of v c.args.low c.args.len c.args.x < 2 ^ 32 = deposit-lt v c.args.low c.args.len c.args.x 32 c.requires.within c.ranges.v.fits c.requires.small in
    let high : v / 2 ^ above * 2 ^ above % 18446744073709551616 ≡ v / 2 ^ above * 2 ^ above = omega (arith, whole) in
    let middle : c.args.x * 2 ^ c.args.low % 18446744073709551616 ≡ c.args.x * 2 ^ c.args.low = omega (arith, moved) in
    rw (mask, c.from-old.ensures, c.from.ensures, high, middle, and_mask v c.args.low) refl

pub overflow_cast-result-2 : goal.overflow_cast-result-2
overflow_cast-result-2 c =
    let same = parts (goal.at.overflow_cast-result-2 c).After-from in
    let whole : deposit_of c.args.v c.args.low c.args.len c.args.x < 2 ^ 32 = deposit-lt c.args.v c.args.low c.args.len c.args.x 32 c.requires.within c.ranges.v.fits c.requires.small in
    omega (arith, same, whole)

pub returns : goal.returns
returns c = parts (goal.at.returns c).After-from
