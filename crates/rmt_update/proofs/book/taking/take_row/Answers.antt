use Rattle.std.proofs.Common.{◌<◌, List, length, sym, ap, subst, ◌∙◌}
use Rattle.rmt_book.specs.declared.spots.Spot.{Spot}
use Rattle.rmt_book.specs.declared.table.PartCells.{PartCells}
use Rattle.rmt_book.specs.RowOrder.{IsFirstFit}
use Rattle.rmt_book.specs.Spots.{spot_from}
use Rattle.rmt_update.proofs.PutRows.{spot-within}
use Rattle.rmt_update.proofs.book.taking.take_row.Goals as goal

pub returns-clause-within : goal.returns-clause-within
returns-clause-within c =
    let parts = c.args.table.now.parts.items in
    let row = c.in-Some.row in
    let fit = subst (IsFirstFit c.args.order.now.rows c.args.order.now.free c.row_key-key.result) c.in-Some.is c.row_for.ensures in
    subst (λ (s : Spot). s.part < length parts) (sym (c.spot_of.ensures ∙ ap (λ (xs : List PartCells). spot_from 0 xs row) c.as_slice.ensures.value))
    (spot-within parts row (c.requires.free row fit.0))
