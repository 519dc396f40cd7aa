use Rattle.std.proofs.Common.{◌≡◌, ◌*◌, ◌^◌, ◌<◌, length, subst, arith}
use Rattle.rmt_bits.specs.Bits.{number_of}
use Rattle.rmt_bits.proofs.ByteLaws.{number_of-lt}
use Rattle.rmt_map_tests.proofs.memories.put_record.Goals as goal

pub write_record-requires-clause-small : goal.write_record-requires-clause-small
write_record-requires-clause-small c =
    let bytes = c.args.held.now in
    let e : 8 * length bytes ≡ c.args.part.now.held = omega (arith, c.requires.held) in
    subst (λ n. number_of bytes < 2 ^ n) e (number_of-lt bytes (λ i. (c.type_inv.held i).fits))
