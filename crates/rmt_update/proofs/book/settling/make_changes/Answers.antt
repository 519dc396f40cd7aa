use Rattle.std.proofs.Common.{◌++◌, List, map, ap, ◌∙◌}
use Rattle.std.specs.Prelude.{reverse}
use Rattle.rmt_update.specs.declared.book.changing.CellChange.{CellChange}
use Rattle.rmt_config.specs.declared.cell_write.CellWrite.{CellWrite}
use Rattle.rmt_book.specs.BookSpots.{kept_at}
use Rattle.rmt_update.specs.Changing.{ChangeKey}
use Rattle.rmt_update.specs.Differences.{changes_in}
use Rattle.rmt_update.specs.TurnWrites.{cell_turn}
use Rattle.rmt_update.specs.Turning.{turned}
use Rattle.rmt_update.proofs.ChangesLaws.{changes-ordered}
use Rattle.rmt_update.proofs.EnteringLaws.{tables-on, unchanged}
use Rattle.rmt_lists.proofs.ResultLaws.{on_err}
use Rattle.rmt_update.proofs.TurnOrder.{spots-apart, turned-reverse}
use Rattle.rmt_update.proofs.TurnWriteLaws.{changes-there}
use Rattle.rmt_update.proofs.book.settling.make_changes.Goals as goal

pub returns-in_err-ordered-clause-kept : goal.returns-in_err-ordered-clause-kept
returns-in_err-ordered-clause-kept c = on_err c.from_residual.result _ (unchanged c.args.tables.now.items)

pub returns-in_err-writes-clause-kept : goal.returns-in_err-writes-clause-kept
returns-in_err-writes-clause-kept c = on_err c.from_residual-in_err-writes.result _ (unchanged c.args.tables.now.items)

pub turn_changed-requires-clause-spots : goal.turn_changed-requires-clause-spots
turn_changed-requires-clause-spots c = changes-there c.args.tables.now.items c.enter.new.tables.items (changes_in c.args.cells.items) c.in_ok-ordered.ordered.items c.in_ok-ordered.ensures c.requires.spots c.in_ok-enter.ensures.came.same

pub returns-clause-writes : goal.returns-clause-writes
returns-clause-writes c =
    c.turn_changed.ensures.writes ∙ ap (λ (ws : List CellWrite). ws ++ map (λ (x : ChangeKey × CellChange). x.1.write) c.in_ok-ordered.ordered.items) c.in_ok-writes.ensures.items
    ∙ ap (map (λ (x : ChangeKey × CellChange). x.1.write)) c.in_ok-ordered.ensures

pub returns-clause-made : goal.returns-clause-made
returns-clause-made c =
    let ts = c.args.tables.now.items in
    let vs = c.enter.new.tables.items in
    let m = changes_in c.args.cells.items in
    let came = c.in_ok-enter.ensures.came in
    let made = c.turn_changed.ensures.made in
    record {
      same = tables-on ts vs c.turn_changed.new.tables.items came.same made.same;
      each = λ s. made.each s ∙ ap (λ (xs : List (ChangeKey × CellChange)). turned (map cell_turn (reverse xs)) s (kept_at vs s)) c.in_ok-ordered.ensures
          ∙ turned-reverse m (spots-apart ts m (changes-ordered c.args.cells.items) c.requires.spots) s (kept_at vs s) ∙ ap (turned (map cell_turn m) s) (came.each s);
    }
