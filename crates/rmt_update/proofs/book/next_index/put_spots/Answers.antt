use Rattle.std.proofs.Common.{◌≡◌, ◌==◌, Some, cond, refl, sym, take, ap, ◌∙◌}
use Rattle.std.specs.Prelude.{slice_get}
use Rattle.std.specs.BTreeMap.{get}
use Rattle.std.specs.Ordering.{nat_cmp}
use Rattle.rmt_bits.proofs.ListLaws.{slice_get-seen, take-slice_get}
use Rattle.rmt_update.specs.NextIndex.{spot_behind}
use Rattle.rmt_update.proofs.NextIndexLaws.{behind-next}
use Rattle.rmt_book.proofs.RankLaws.{same-number}
use Rattle.rmt_update.proofs.book.next_index.put_spots.Goals as goal

pub loop-coming-preserved : goal.loop-coming-preserved
loop-coming-preserved c = λ n.
    let i = c.loop-coming.coming-index in
    let xs = c.args.come.now in
    let x = c.coming-item.result in
    let at : slice_get xs i ≡ Some x = slice_get-seen xs xs i x refl c.loop-coming-test.true c.coming-item.is in
    let old = get nat_cmp c.args.spots.now n in
    c.in_ok-insert.ensures.updates.0 n ∙ ap (λ b. cond b (Some x.spot) (get nat_cmp c.loop-coming.spots n)) (same-number x.kept.number n)
    ∙ ap (cond (x.kept.number == n) (Some x.spot)) (c.loop-coming.invariant n) ∙ sym (behind-next (take i xs) x n old) ∙ ap (λ ys. spot_behind ys n old) (sym (take-slice_get xs i x at))
