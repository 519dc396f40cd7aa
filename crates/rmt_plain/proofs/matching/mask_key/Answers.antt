use Rattle.std.proofs.Common.{sym, ◌∙◌, arith}
use Rattle.rmt_plain.proofs.KeyLaws.{masked-ended}
use Rattle.rmt_plain.proofs.matching.mask_key.Goals as goal

pub returns : goal.returns
returns c =
    let end = c.min-i-end.ensures in
    sym (masked-ended c.loop-i.wanted.items c.args.masks.now c.args.key.now c.args.state.now c.loop-i.i (omega arith)) ∙ c.loop-i.invariant
