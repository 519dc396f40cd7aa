use Rattle.std.proofs.Common.{◌++◌, ◌∷◌, [], List, append_assoc, length, length-append, map, refl, sym, ap, ◌∙◌, subst, arith}
use Rattle.std.specs.Prelude.{reverse}
use Rattle.std.proofs.lemmas.Iterator.Adapters.{YieldsList-from_vec}
use Rattle.std.proofs.lemmas.Iterator.Consumers.{YieldsList-end, YieldsList-turn}
use Rattle.std.proofs.lemmas.List.{append-nil, length-map, map-append}
use Rattle.rmt_config.specs.declared.cell_write.CellWrite.{CellWrite}
use Rattle.rmt_update.specs.declared.book.changing.CellChange.{CellChange}
use Rattle.rmt_update.specs.declared.book.turning.Turn.{Turn}
use Rattle.rmt_book.specs.BookSpots.{kept_at}
use Rattle.rmt_update.specs.Changing.{ChangeKey}
use Rattle.rmt_update.specs.TurnWrites.{cell_turn}
use Rattle.rmt_update.specs.Turning.{HaveCells, IsSpotIn, TablesWith, turned, turned_by}
use Rattle.rmt_update.proofs.EnteringLaws.{still-there}
use Rattle.rmt_book.proofs.OrderedLaws.{map-same}
use Rattle.rmt_update.proofs.TurnOrder.{none-turned, turn-more}
use Rattle.rmt_update.proofs.book.settling.turn_changed.Goals as goal

pub loop-change-init : goal.loop-change-init
loop-change-init c = record { writes = sym (append-nil c.args.writes.now.items); room = refl; made = none-turned c.args.tables.now.items }

pub turn_cell-requires : goal.turn_cell-requires
turn_cell-requires c =
    let x : ChangeKey × CellChange = (c.in-Some.field-0-0, c.in-Some.change) in
    let gives = c.into_iter-change-iterator.ensures.into_iter_gives in
    let ok = c.args.cells.ok.0 in
    let k = YieldsList-turn (YieldsList-from_vec c.args.cells.items gives.0 (let l = gives.1 in omega (arith, l, ok))) c.loop-change.yielded c.loop-change.change-iterator c.loop-change.yielded_by
    c.next.result c.next.new.self x c.in-Some.is c.next.ensures.steps in
    still-there c.args.tables.now.items c.loop-change.tables.items x.1.spot c.loop-change.invariant.made.same
    (subst (λ (y : ChangeKey × CellChange). IsSpotIn c.args.tables.now.items y.1.spot) (sym k.1) (c.requires.spots (length c.loop-change.yielded) x k.0))

pub push_reserved-requires : goal.push_reserved-requires
push_reserved-requires c =
    let x : ChangeKey × CellChange = (c.in-Some.field-0-0, c.in-Some.change) in
    let ys = c.loop-change.yielded in
    let gives = c.into_iter-change-iterator.ensures.into_iter_gives in
    let ok = c.args.cells.ok.0 in
    let k = YieldsList-turn (YieldsList-from_vec c.args.cells.items gives.0 (let l = gives.1 in omega (arith, l, ok))) ys c.loop-change.change-iterator c.loop-change.yielded_by
    c.next.result c.next.new.self x c.in-Some.is c.next.ensures.steps in
    let less = k.0 in
    let so_far = ap (λ (ws : List CellWrite). length ws) c.loop-change.invariant.writes in
    let own = c.loop-change.writes.ok.0 in
    let room = c.requires.room in
    let same = c.loop-change.invariant.room in
    let both = length-append c.args.writes.now.items (map (λ (y : ChangeKey × CellChange). y.1.write) ys) in
    let more = length-map ys (λ (y : ChangeKey × CellChange). y.1.write) in
    omega (arith, less, so_far, own, room, same, both, more)

pub loop-change-preserved : goal.loop-change-preserved
loop-change-preserved c =
    let before = c.loop-change.invariant in
    let x : ChangeKey × CellChange = (c.in-Some.field-0-0, c.in-Some.change) in
    let ys = c.loop-change.yielded in
    let old = c.args.writes.now.items in
    let write = λ (y : ChangeKey × CellChange). y.1.write in
    record {
      writes = c.push_reserved.ensures.items ∙ ap (λ (ws : List CellWrite). ws ++ x.1.write ∷ []) before.writes
          ∙ append_assoc old (map write ys) (x.1.write ∷ []) ∙ ap (λ (ws : List CellWrite). old ++ ws) (sym (map-append write ys (x ∷ [])));
      room = c.push_reserved.ensures.capacity ∙ before.room;
      made = turn-more c.args.tables.now.items c.loop-change.tables.items c.turn_cell.new.tables.items ys x before.made
          (subst (λ (t : Turn). TablesWith x.1.spot (turned_by t) c.loop-change.tables.items c.turn_cell.new.tables.items) c.turn_of-turn.ensures c.turn_cell.ensures);
    }

pub returns : goal.returns
returns c =
    let gives = c.into_iter-change-iterator.ensures.into_iter_gives in
    let ok = c.args.cells.ok.0 in
    let end = YieldsList-end (YieldsList-from_vec c.args.cells.items gives.0 (let l = gives.1 in omega (arith, l, ok))) c.loop-change.yielded c.loop-change.change-iterator c.loop-change.yielded_by
    c.next.result c.next.new.self c.in-None.is c.next.ensures.steps in
    let all = sym (map-same c.loop-change.yielded) ∙ end.0 in
    let ts = c.args.tables.now.items in
    record {
      writes = c.loop-change.invariant.writes ∙ ap (λ (xs : List (ChangeKey × CellChange)). c.args.writes.now.items ++ map (λ (y : ChangeKey × CellChange). y.1.write) xs) all;
      made = subst (λ (xs : List (ChangeKey × CellChange)). HaveCells ts c.loop-change.tables.items (λ s. turned (map cell_turn (reverse xs)) s (kept_at ts s))) all c.loop-change.invariant.made;
    }
