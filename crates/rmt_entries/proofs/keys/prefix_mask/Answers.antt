use Rattle.std.proofs.Common.{◌≤◌, ◌-◌, ◌^◌, arith}
use Rattle.std.proofs.Math.Pow.{pow_mono}
use Rattle.std.proofs.lemmas.Nat.{pow_pos}
use Rattle.rmt_entries.proofs.keys.prefix_mask.Goals as goal

pub overflow_sub-result : goal.overflow_sub-result
overflow_sub-result c =
    let le : c.args.width - c.args.len ≤ c.args.width = omega arith in
    let powers : 2 ^ (c.args.width - c.args.len) ≤ 2 ^ c.args.width = pow_mono le in
    omega (arith, c.ones-all.ensures, c.ones-low.ensures, powers)

pub returns : goal.returns
returns c = omega (arith, c.ones-all.ensures, c.ones-low.ensures, pow_pos (c.args.width - c.args.len))
