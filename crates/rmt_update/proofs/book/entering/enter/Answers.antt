use Rattle.std.proofs.Common.{List, length, sym, ap, ◌∙◌, subst, arith}
use Rattle.std.proofs.lemmas.Iterator.Adapters.{YieldsList-from_vec}
use Rattle.std.proofs.lemmas.Iterator.Consumers.{YieldsList-end, YieldsList-turn}
use Rattle.rmt_update.specs.declared.book.placing.Coming.{Coming}
use Rattle.rmt_book.specs.BookSpots.{kept_at}
use Rattle.rmt_update.specs.Turning.{HaveCells, IsSpotIn, come_to}
use Rattle.rmt_update.proofs.EnteringLaws.{come-more, come-none, lead-none, led-back, not-err, ok-of, still-there}
use Rattle.rmt_book.proofs.OrderedLaws.{map-same}
use Rattle.rmt_update.proofs.book.entering.enter.Goals as goal

pub loop-coming-init : goal.loop-coming-init
loop-coming-init c = record { came = come-none c.args.tables.now.items; back = lead-none c.args.tables.now.items c.new-entered.result.items c.new-entered.ensures.items }

pub enter_one-requires : goal.enter_one-requires
enter_one-requires c =
    let gives = c.into_iter-coming-iterator.ensures.into_iter_gives in
    let items = c.into_vec-coming-items.ensures in
    let ok = c.into_vec-coming-items.result.ok.0 in
    let long = ap (λ (xs : List Coming). length xs) items in
    let k = YieldsList-turn (YieldsList-from_vec c.args.come (gives.0 ∙ items) (let l = gives.1 in omega (arith, l, ok, long))) c.loop-coming.yielded c.loop-coming.coming-iterator c.loop-coming.yielded_by
    c.next.result c.next.new.self c.in-Some.coming c.in-Some.is c.next.ensures.steps in
    still-there c.args.tables.now.items c.loop-coming.tables.items c.in-Some.coming.spot c.loop-coming.invariant.came.same
    (subst (λ (x : Coming). IsSpotIn c.args.tables.now.items x.spot) (sym k.1) (c.requires (length c.loop-coming.yielded) c.in-Some.coming k.0))

pub turn_all-requires : goal.turn_all-requires
turn_all-requires c = (c.enter_one.ensures.back c.args.tables.now.items c.loop-coming.invariant.back).spots

pub returns-then-is_err-clause-kept : goal.returns-then-is_err-clause-kept
returns-then-is_err-clause-kept c =
    led-back c.enter_one.new.entered.items c.args.tables.now.items c.enter_one.new.tables.items c.turn_all.new.tables.items (c.enter_one.ensures.back c.args.tables.now.items c.loop-coming.invariant.back) c.turn_all.ensures

pub loop-coming-preserved : goal.loop-coming-preserved
loop-coming-preserved c =
    record {
      came = come-more c.loop-coming.yielded c.in-Some.coming c.args.tables.now.items c.loop-coming.tables.items c.enter_one.new.tables.items c.loop-coming.invariant.came
          (ok-of c.enter_one.result _ (not-err c.enter_one.result (sym c.is_err.ensures.value ∙ c.if-is_err.false)) c.enter_one.ensures.came);
      back = c.enter_one.ensures.back c.args.tables.now.items c.loop-coming.invariant.back;
    }

pub returns-clause-came : goal.returns-clause-came
returns-clause-came c =
    let gives = c.into_iter-coming-iterator.ensures.into_iter_gives in
    let items = c.into_vec-coming-items.ensures in
    let ok = c.into_vec-coming-items.result.ok.0 in
    let long = ap (λ (xs : List Coming). length xs) items in
    let all = YieldsList-end (YieldsList-from_vec c.args.come (gives.0 ∙ items) (let l = gives.1 in omega (arith, l, ok, long))) c.loop-coming.yielded c.loop-coming.coming-iterator c.loop-coming.yielded_by
    c.next.result c.next.new.self c.in-None.is c.next.ensures.steps in
    subst (λ (xs : List Coming). HaveCells c.args.tables.now.items c.loop-coming.tables.items (λ s. come_to xs s (kept_at c.args.tables.now.items s))) (sym (map-same c.loop-coming.yielded) ∙ all.0) c.loop-coming.invariant.came
