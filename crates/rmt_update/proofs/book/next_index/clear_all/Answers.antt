use Rattle.std.proofs.Common.{sym, subst, take, arith}
use Rattle.std.specs.Prelude.{All}
use Rattle.std.proofs.lemmas.List.{take_all, take_more_set}
use Rattle.std.proofs.lemmas.List.Elements.{All-push}
use Rattle.rmt_update.specs.RowIndex.{IsNone}
use Rattle.rmt_update.proofs.PutRows.{none-set}
use Rattle.rmt_update.proofs.book.next_index.clear_all.Goals as goal

pub loop-set-preserved : goal.loop-set-preserved
loop-set-preserved c =
    let sets = c.loop-set.sets in
    let i = c.loop-set.set-index in
    let set = c.clear.new.self in
    let lt = c.loop-set-test.true in
    let long = c.loop-set.auto.sets in
    subst (All IsNone) (sym (take_more_set sets i set (omega (arith, lt, long)))) (All-push IsNone (take i sets) set c.loop-set.invariant (none-set set c.clear.ensures.empty))

pub returns-clause-none : goal.returns-clause-none
returns-clause-none c =
    let past = c.loop-set-test.false in
    let long = c.loop-set.auto.sets in
    subst (All IsNone) (take_all c.loop-set.set-index c.loop-set.sets (omega (arith, past, long))) c.loop-set.invariant
