use Rattle.std.proofs.Common.{◌≡◌, ◌<◌, ◌+◌, ◌∷◌, List, [], get_or, length, length-append, slice_set, refl, sym, ap, ◌∙◌, arith}
use Rattle.std.proofs.lemmas.Iterator.Adapters.{YieldsList-from_vec}
use Rattle.std.proofs.lemmas.Iterator.Consumers.{YieldsList-turn}
use Rattle.rmt_book.specs.declared.table.TableCells.{TableCells}
use Rattle.rmt_update.specs.Moved.{with_parts}
use Rattle.rmt_update.proofs.PutBackLaws.{with-length, with-more, with-none}
use Rattle.rmt_update.proofs.book.moving.put_back.Goals as goal

pub loop-parts-init : goal.loop-parts-init
loop-parts-init c = record { at = refl; tables = sym (with-none c.args.tables.now.items) }

pub index_mut-requires : goal.index_mut-requires
index_mut-requires c =
    let gives = c.into_iter-parts-iterator.ensures.into_iter_gives in
    let ok = c.args.moved.ok.0 in
    let k = YieldsList-turn (YieldsList-from_vec c.args.moved.items gives.0 (let l = gives.1 in omega (arith, l, ok))) c.loop-parts.yielded c.loop-parts.parts-iterator c.loop-parts.yielded_by
    c.next.result c.next.new.self c.in-Some.parts c.in-Some.is c.next.ensures.steps in
    let at = c.loop-parts.invariant.at in
    let lt = k.0 in
    let same = ap (λ (ts : List TableCells). length ts) c.loop-parts.invariant.tables ∙ with-length c.args.tables.now.items c.loop-parts.yielded in
    let len = c.loop-parts.tables.ok.0 in
    let few = c.requires in
    omega (arith, at, lt, same, len, few)

pub loop-parts-preserved : goal.loop-parts-preserved
loop-parts-preserved c =
    let gives = c.into_iter-parts-iterator.ensures.into_iter_gives in
    let ok = c.args.moved.ok.0 in
    let k = YieldsList-turn (YieldsList-from_vec c.args.moved.items gives.0 (let l = gives.1 in omega (arith, l, ok))) c.loop-parts.yielded c.loop-parts.parts-iterator c.loop-parts.yielded_by
    c.next.result c.next.new.self c.in-Some.parts c.in-Some.is c.next.ensures.steps in
    let ts = c.args.tables.now.items in
    let vs = c.loop-parts.yielded in
    let v = c.in-Some.parts in
    let r = c.index_mut.result.now in
    let at = c.loop-parts.invariant.at in
    let lt = k.0 in
    let few = c.requires in
    let within : length vs < length ts = omega (arith, lt, few) in
    let is : r ≡ get_or (with_parts ts vs) (length vs) r =
    c.index_mut.ensures.value ∙ ap (λ (xs : List TableCells). get_or xs c.loop-parts.at r) c.loop-parts.invariant.tables ∙ ap (λ i. get_or (with_parts ts vs) i r) at in
    record {
      at = ap (λ n. n + 1) at ∙ sym (length-append vs (v ∷ []));
      tables =
          ap (λ (xs : List TableCells). slice_set xs c.loop-parts.at (record { name = r.name; parts = v })) c.loop-parts.invariant.tables
          ∙ ap (λ i. slice_set (with_parts ts vs) i (record { name = r.name; parts = v })) at ∙ with-more ts vs v r within is;
    }
