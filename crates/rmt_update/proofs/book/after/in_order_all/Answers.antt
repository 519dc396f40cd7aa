use Rattle.std.proofs.Common.{◌≡◌, ℕ, List, length, map, sym, ap, ◌∙◌, subst, arith}
use Rattle.std.specs.BTreeMap.{BTreeMap}
use Rattle.std.specs.List.{range_with_len}
use Rattle.std.proofs.lemmas.Iterator.Adapters.{YieldsList-from_vec}
use Rattle.std.proofs.lemmas.Iterator.Consumers.{YieldsList-end}
use Rattle.rmt_ast.specs.declared.entry.Entry.{Entry}
use Rattle.rmt_config.specs.NamesForm.{by_number}
use Rattle.rmt_update.specs.After.{AreOrders}
use Rattle.rmt_update.proofs.AddedLaws.{added}
use Rattle.rmt_update.proofs.AfterLaws.{in-order-more}
use Rattle.rmt_book.proofs.OrderedLaws.{map-same}
use Rattle.rmt_update.proofs.book.after.in_order_all.Goals as goal

pub loop-ordered-preserved : goal.loop-ordered-preserved
loop-ordered-preserved c = λ own all.
    let made = added c.in_order.result _ _ c.in_order.ensures c.in_ok-add_made.ensures in
    made.2 ∙ in-order-more own c.loop-ordered.yielded c.in-Some.ordered c.loop-ordered.lists.items made.0 (c.loop-ordered.invariant own) made.1 all

pub returns : goal.returns
returns c = λ own all.
    let orders = c.args.orders in
    let gives = c.into_iter-ordered-iterator.ensures.into_iter_gives in
    let ok = orders.ok.0 in
    let end = YieldsList-end (YieldsList-from_vec orders.items gives.0 (let l = gives.1 in omega (arith, l, ok))) c.loop-ordered.yielded c.loop-ordered.ordered-iterator c.loop-ordered.yielded_by
    c.next.result c.next.new.self c.in-None.is c.next.ensures.steps in
    let same : orders.items ≡ c.loop-ordered.yielded = sym (sym (map-same c.loop-ordered.yielded) ∙ end.0) in
    c.from_vec.ensures ∙ c.loop-ordered.invariant own (subst (AreOrders own) same all) ∙ ap (λ (xs : List (BTreeMap ℕ Entry)). map (λ n. by_number (own n)) (range_with_len 0 (length xs))) (sym same)
