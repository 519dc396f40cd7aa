use Rattle.std.proofs.Common.{◌++◌, ◌∷◌, [], List, length, map, refl, sym, ap, ◌∙◌, arith}
use Rattle.std.proofs.lemmas.Iterator.Adapters.{YieldsList-from_vec}
use Rattle.std.proofs.lemmas.Iterator.Consumers.{YieldsList-end, YieldsList-turn}
use Rattle.std.proofs.lemmas.List.{length-map, map-append}
use Rattle.rmt_config.specs.declared.cell_write.CellWrite.{CellWrite}
use Rattle.rmt_update.specs.declared.book.changing.CellChange.{CellChange}
use Rattle.rmt_update.specs.Changing.{ChangeKey}
use Rattle.rmt_book.proofs.OrderedLaws.{map-same}
use Rattle.rmt_update.proofs.book.differences.written.Goals as goal

pub returns : goal.returns
returns c =
    let gives = c.into_iter-change-iterator.ensures.into_iter_gives in
    let ok = c.in_ok-ordered.ordered.ok.0 in
    let all = YieldsList-end (YieldsList-from_vec c.in_ok-ordered.ordered.items gives.0 (let l = gives.1 in omega (arith, l, ok))) c.loop-change.yielded c.loop-change.change-iterator c.loop-change.yielded_by
    c.next.result c.next.new.self c.in-None.is c.next.ensures.steps in
    c.loop-change.invariant.writes ∙ ap (map (λ (x : ChangeKey × CellChange). x.1.write)) (sym (map-same c.loop-change.yielded) ∙ all.0 ∙ c.in_ok-ordered.ensures)

pub loop-change-init : goal.loop-change-init
loop-change-init c = record { writes = c.in_ok-writes.ensures.items; room = refl }

pub push_reserved-requires : goal.push_reserved-requires
push_reserved-requires c =
    let x : ChangeKey × CellChange = (c.in-Some.field-0-0, c.in-Some.change) in
    let ys = c.loop-change.yielded in
    let gives = c.into_iter-change-iterator.ensures.into_iter_gives in
    let ok = c.in_ok-ordered.ordered.ok.0 in
    let k = YieldsList-turn (YieldsList-from_vec c.in_ok-ordered.ordered.items gives.0 (let l = gives.1 in omega (arith, l, ok))) ys c.loop-change.change-iterator c.loop-change.yielded_by
    c.next.result c.next.new.self x c.in-Some.is c.next.ensures.steps in
    let less = k.0 in
    let so_far = ap (λ (ws : List CellWrite). length ws) c.loop-change.invariant.writes in
    let same = c.loop-change.invariant.room in
    let more = length-map ys (λ (y : ChangeKey × CellChange). y.1.write) in
    let room = c.in_ok-writes.ensures.capacity in
    let own = c.loop-change.writes.ok.0 in
    let all = c.len.ensures in
    omega (arith, less, so_far, same, more, room, own, all, ok)

pub loop-change-preserved : goal.loop-change-preserved
loop-change-preserved c =
    let x : ChangeKey × CellChange = (c.in-Some.field-0-0, c.in-Some.change) in
    record {
      writes = c.push_reserved.ensures.items ∙ ap (λ (ws : List CellWrite). ws ++ x.1.write ∷ []) c.loop-change.invariant.writes ∙ sym (map-append (λ (y : ChangeKey × CellChange). y.1.write) c.loop-change.yielded (x ∷ []));
      room = c.push_reserved.ensures.capacity ∙ c.loop-change.invariant.room;
    }
