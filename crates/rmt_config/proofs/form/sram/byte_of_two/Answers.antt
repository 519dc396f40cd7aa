use Rattle.std.proofs.Common.{◌-◌, ◌%◌, arith}
use Rattle.std.proofs.lemmas.Nat.{mod_below, pow_pos, shr_le}
use Rattle.rmt_bits.proofs.BitLaws.{shl-lt}
use Rattle.rmt_config.proofs.form.sram.byte_of_two.Goals as goal

pub overflow_add-result : goal.overflow_add-result
overflow_add-result c =
    let high = shl-lt (c.args.second % 256) (112 - c.args.at) 8 120 (omega (arith, c.requires.at)) (mod_below c.args.second 256 (pow_pos 8)) in
    let low = shr_le c.args.first c.args.at in
    omega (arith, high, low, c.requires.first)
