use Rattle.std.proofs.Common.{arith}
use Rattle.rmt_book.proofs.RowOrderLaws.{last-behind}
use Rattle.rmt_book.proofs.row_order.least_behind.Goals as goal

pub overflow_add-result : goal.overflow_add-result
overflow_add-result c =
    let last = (c.range.ensures.in_range tt).3 _ _ c.in-Some.ensures.steps in
    let few = c.requires.few _ _ last.1 in
    omega (arith, few)

pub returns-in-Some-clause-behind : goal.returns-in-Some-clause-behind
returns-in-Some-clause-behind c = λ k row at less.
    let last = (c.range.ensures.in_range tt).3 _ _ c.in-Some.ensures.steps in
    last-behind c.args.rows.now c.requires.order _ k _ row last.1 at ((c.range.ensures.in_range tt).4 _ _ c.in-Some.ensures.steps k (tt, less) (search at))
