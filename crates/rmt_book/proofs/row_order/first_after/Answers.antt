use Rattle.std.proofs.Common.{refl}
use Rattle.rmt_book.proofs.RowOrderLaws.{first-before, new-before}
use Rattle.rmt_book.proofs.row_order.first_after.Goals as goal

pub returns-in-Some-clause-all : goal.returns-in-Some-clause-all
returns-in-Some-clause-all c = λ k row at less.
    let in_range = c.range.ensures.in_range tt in
    let first = rw c.in-Some.ensures.steps at in_range.1 in
    let le = rw c.in-Some.ensures.steps at (in_range.2 k (search less) (search at)) in
    (c.in-Some.row.now, refl, first-before c.args.rows.now c.requires.order _ k _ row first.1 at le)

pub returns-in-Some-clause-first : goal.returns-in-Some-clause-first
returns-in-Some-clause-first c =
    let first = rw c.in-Some.ensures.steps at (c.range.ensures.in_range tt).1 in
    (_, first.1, new-before c.args.rows.now c.args.key _ _ c.requires.new first.1 first.0.0)
