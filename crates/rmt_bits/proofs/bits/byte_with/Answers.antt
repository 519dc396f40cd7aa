use Rattle.std.proofs.Common.{◌≡◌, ℕ, ◌<◌, ◌^◌, ap, ◌∙◌, arith}
use Rattle.rmt_bits.specs.Bits.{deposit as deposit_of}
use Rattle.rmt_bits.proofs.BitLaws.{deposit-lt}
use Rattle.rmt_bits.proofs.bits.byte_with.Goals as goal

pub overflow_cast-result-else-piece-eq8 : goal.overflow_cast-result-else-piece-eq8
overflow_cast-result-else-piece-eq8 c =
    let piece = c.args.piece in
    let same : c.deposit.result ≡ deposit_of c.args.old piece.low piece.len c.args.bits = c.deposit.ensures ∙ ap (λ (n : ℕ). deposit_of n piece.low piece.len c.args.bits) c.from.ensures in
    let small : deposit_of c.args.old piece.low piece.len c.args.bits < 2 ^ 8 = deposit-lt c.args.old piece.low piece.len c.args.bits 8 c.requires.within c.ranges.old.fits c.requires.small in
    omega (arith, same, small)
