use Rattle.std.proofs.Common.{refl, sym, ◌∙◌}
use Rattle.rmt_verify.proofs.OrderLaws.{order_all, order_more}
use Rattle.rmt_verify.proofs.cells.entries.keep_order.Goals as goal

pub loop-at-preserved : goal.loop-at-preserved
loop-at-preserved c =
    order_more c.args.kind c.args.entries.now c.args.numbers.now c.loop-at.at c.loop-at.auto.at c.loop-at-test.true c.requires.there c.loop-at.invariant
    (λ e f in_e in_f at_e at_f. sym (c.turns.ensures.value e f in_e in_f at_e at_f) ∙ c.if-turns.false)

pub returns : goal.returns
returns c = (λ yes. order_all c.args.kind c.args.entries.now c.args.numbers.now c.loop-at.at c.loop-at-test.false c.loop-at.invariant, λ all. refl)
