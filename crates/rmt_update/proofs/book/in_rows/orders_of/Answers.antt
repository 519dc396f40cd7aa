use Rattle.std.proofs.Common.{◌<◌, ◌^◌, All, ap, refl, subst, ◌∙◌}
use Rattle.std.proofs.lemmas.List.{take_all}
use Rattle.rmt_ast.specs.declared.entry.Entry.{Entry}
use Rattle.rmt_book.specs.Spots.{order_by}
use Rattle.rmt_book.proofs.SliceLoops.{all-more, map-all, map-next}
use Rattle.rmt_update.proofs.book.in_rows.orders_of.Goals as goal

pub loop-entry-preserved : goal.loop-entry-preserved
loop-entry-preserved c =
    let es = c.args.entries.now in
    let i = c.loop-entry.entry-index in
    let lt = c.loop-entry-test.true in
    record {
      orders =
          map-next (order_by c.args.kind) es i c.entry-item.result c.loop-entry.orders.items _ _ lt c.loop-entry.invariant.orders c.in_ok-push.ensures.items (c.order_of.ensures.order ∙ ap (order_by c.args.kind) c.entry-item.is);
      ranks = all-more (λ (x : Entry). x.rank < 2 ^ 32) es es i c.entry-item.result refl lt c.entry-item.is c.loop-entry.invariant.ranks c.order_of.ensures.rank;
      numbers = all-more (λ (x : Entry). x.number < 2 ^ 32) es es i c.entry-item.result refl lt c.entry-item.is c.loop-entry.invariant.numbers c.order_of.ensures.number;
    }

pub returns-clause-orders : goal.returns-clause-orders
returns-clause-orders c = map-all (order_by c.args.kind) c.args.entries.now c.loop-entry.entry-index c.loop-entry.orders.items c.loop-entry.invariant.orders c.loop-entry-test.false

pub returns-clause-ranks : goal.returns-clause-ranks
returns-clause-ranks c = subst (All (λ (x : Entry). x.rank < 2 ^ 32)) (take_all c.loop-entry.entry-index c.args.entries.now c.loop-entry-test.false) c.loop-entry.invariant.ranks

pub returns-clause-numbers : goal.returns-clause-numbers
returns-clause-numbers c = subst (All (λ (x : Entry). x.number < 2 ^ 32)) (take_all c.loop-entry.entry-index c.args.entries.now c.loop-entry-test.false) c.loop-entry.invariant.numbers
