use Rattle.std.proofs.Common.{List, ◌∙◌, subst, rules}
use Rattle.std.specs.List.Sorted.{IsStableByKey}
use Rattle.std.proofs.lemmas.Fn.{always_returns_same, dedup_same}
use Rattle.rmt_update.specs.declared.book.changing.CellChange.{CellChange}
use Rattle.rmt_update.specs.Changing.{ChangeKey, key_cmp}
use Rattle.rmt_update.proofs.ChangesLaws.{changes-sorted, same_key}
use Rattle.rmt_update.proofs.book.changing.in_order.Goals as goal

pub returns : goal.returns
returns c =
    let ys = c.sort_by_key.new.self.items in
    let key = λ (x : ChangeKey × CellChange). x.0 in
    let kept = dedup_same _ (λ (x y : ChangeKey × CellChange). same_key x.0 y.0) _ (λ x y b f' x' y' k. search rules) _ _ c.dedup_by_key.ensures.filtered in
    kept
    ∙ changes-sorted c.args.changes.items ys (c.in_ok-sort_by_key.ensures.sorted key (always_returns_same _ _ _ (λ a r q k. search rules)))
    (subst (λ (xs : List (ChangeKey × CellChange)). IsStableByKey key key_cmp xs ys) c.reverse.ensures.items (c.in_ok-sort_by_key.ensures.stable key (always_returns_same _ _ _ (λ a r q k. search rules))))
