use Rattle.std.proofs.Common.{◌∷◌, [], length, length-append, List, ap, subst, sym, arith}
use Rattle.std.specs.Prelude.{All}
use Rattle.std.proofs.lemmas.List.Elements.{All-push}
use Rattle.rmt_update.specs.RowIndex.{IsNone}
use Rattle.rmt_update.proofs.PutRows.{none-set}
use Rattle.rmt_update.proofs.book.index.none_given.Goals as goal

pub loop-left-preserved : goal.loop-left-preserved
loop-left-preserved c =
    let grown = c.in_ok-push.ensures.items in
    let one = c.new.result in
    record {
      count =
          (let long = length-append c.loop-left.given.items (one ∷ []) in
          let more = ap (λ (gs : List _). length gs) grown in
          let before = c.loop-left.invariant.count in
          let some = c.loop-left-test.true in
          omega (arith, long, more, before, some));
      none = subst (All IsNone) (sym grown) (All-push IsNone c.loop-left.given.items one c.loop-left.invariant.none (none-set one c.new.ensures.empty));
    }
