use Rattle.std.proofs.Common.{◌≡◌, ◌∙◌, ap, length, map, subst, sym, arith}
use Rattle.std.specs.List.{range_with_len}
use Rattle.std.proofs.lemmas.Result.{IfOk-weaker}
use Rattle.rmt_bits.specs.Members.{is_among}
use Rattle.rmt_config.specs.NamesForm.{by_number}
use Rattle.rmt_update.specs.After.{AreOrders, left_of, with_come}
use Rattle.rmt_book.specs.Seen.{HaveNumbers}
use Rattle.rmt_update.proofs.AfterLaws.{map-changed, numbers-left}
use Rattle.rmt_update.proofs.book.after.lists_after.Goals as goal

pub returns : goal.returns
returns c =
    let ch = c.args.changes.now in
    let lists = c.args.lists in
    let gone_is = c.as_slice.ensures in
    let come_is = c.as_slice-2.ensures in
    let count = c.in_ok-orders.ensures.count in
    let left = c.in_ok-orders.ensures.left ch.gone (λ n. c.in_ok-gone.ensures n ∙ ap (λ ns. is_among ns n) gone_is)
    (λ n lt. numbers-left (left_of ch.gone lists n) ch.come n (c.requires.numbers n lt)) in
    let put : AreOrders (with_come (left_of ch.gone lists) ch.come) c.put_all.new.orders.items =
    subst (λ es. AreOrders (with_come (left_of ch.gone lists) es) c.put_all.new.orders.items) come_is
    (c.in_ok-put_all.ensures.put (left_of ch.gone lists) left
    (λ n lt. subst (λ es. HaveNumbers (with_come (left_of ch.gone lists) es n)) (sym come_is) (c.requires.numbers n (omega (arith, lt, count))))) in
    let long : length c.put_all.new.orders.items ≡ length lists = c.in_ok-put_all.ensures.count ∙ count in
    IfOk-weaker c.in_order_all.result _ _ (λ after is. is (with_come (left_of ch.gone lists) ch.come) put
    ∙ ap (λ k. map (λ n. by_number (with_come (left_of ch.gone lists) ch.come n)) (range_with_len 0 k)) long ∙ map-changed lists ch) c.in_order_all.ensures
