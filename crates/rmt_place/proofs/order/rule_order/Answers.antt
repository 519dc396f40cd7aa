use Rattle.std.proofs.Common.{◌∙◌, ap, length, arith}
use Rattle.rmt_deps.proofs.LevelLaws.{length-levels_of}
use Rattle.rmt_place.proofs.order.rule_order.Goals as goal

pub order-requires : goal.order-requires
order-requires c =
    omega (arith, ap length (c.as_slice.ensures ∙ c.in_ok-levels.ensures.levels), length-levels_of c.args.deps.now c.args.nodes, c.ranges.nodes.fits)
