use Rattle.std.proofs.Common.{◌++◌, ◌∷◌, [], length, sym, ap, ◌∙◌, subst, arith}
use Rattle.std.proofs.lemmas.List.{length-append}
use Rattle.rmt_update.specs.After.{AreOrders, left_of}
use Rattle.rmt_update.proofs.AddedLaws.{added}
use Rattle.rmt_update.proofs.AfterLaws.{orders-more}
use Rattle.rmt_update.proofs.book.after.left_in_all.Goals as goal

pub loop-list-preserved : goal.loop-list-preserved
loop-list-preserved c =
    let orders = c.loop-list.orders.items in
    let so_far = c.loop-list.yielded in
    let es = c.in-Some.list in
    let made = added c.left_in.result _ _ c.left_in.ensures c.in_ok-add_made.ensures in
    let m = made.0 in
    let count = c.loop-list.invariant.count in
    let long = length-append so_far (es ∷ []) in
    let grown = length-append orders (m ∷ []) in
    record {
      count = ap length made.2 ∙ omega (arith, count, long, grown);
      left = λ numbers same have.
          subst (AreOrders (left_of numbers (so_far ++ es ∷ []))) (sym made.2)
          (orders-more numbers so_far es orders m count (c.loop-list.invariant.left numbers same) (made.1 numbers same) have);
    }
