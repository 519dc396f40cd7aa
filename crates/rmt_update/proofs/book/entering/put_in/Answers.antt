use Rattle.std.proofs.Common.{◌≡◌, Option, Some, sym, ap, ◌∙◌}
use Rattle.std.proofs.lemmas.Option.{slice_get-get_or}
use Rattle.std.proofs.lemmas.Result.{IfOk-weaker, on_err_weaker, on_ok_weaker}
use Rattle.std.specs.Prelude.{option_and_then, slice_get}
use Rattle.rmt_book.specs.declared.kept.Kept.{Kept}
use Rattle.rmt_book.specs.declared.table.TableCells.{TableCells}
use Rattle.rmt_book.specs.BookSpots.{kept_in}
use Rattle.rmt_update.proofs.EnteringLaws.{table-put, there-part, there-within}
use Rattle.rmt_update.proofs.book.entering.put_in.Goals as goal
use Rattle.rmt_update.proofs.book.entering.put_in.Goals.{After-index_mut}

-- the table of the spot
here : (c : After-index_mut) → slice_get c.args.tables.now.items c.args.spot.table ≡ Some c.index_mut.result.now
here c =
    let ts = c.args.tables.now.items in
    slice_get-get_or ts c.args.spot.table c.index_mut.result.now (there-within ts c.args.spot c.requires) ∙ ap Some (sym c.index_mut.ensures.value)

pub put_in_parts-requires : goal.put_in_parts-requires
put_in_parts-requires c =
    there-part c.args.tables.now.items c.args.spot c.index_mut.result.now (here (goal.at.put_in_parts-requires c).After-index_mut) c.requires

pub returns-clause-put : goal.returns-clause-put
returns-clause-put c =
    on_ok_weaker c.put_in_parts.result (table-put c.args.tables.now.items c.args.spot (λ (o : Option Kept). Some c.args.kept) c.index_mut.result.now c.put_in_parts.new.parts (here (goal.at.returns-clause-put c).After-index_mut)) c.put_in_parts.ensures.put

pub returns-clause-before : goal.returns-clause-before
returns-clause-before c =
    IfOk-weaker c.put_in_parts.result _ _ (λ before is. is ∙ ap (λ (o : Option TableCells). option_and_then (λ (x : TableCells). kept_in x c.args.spot.at) o) (sym (here (goal.at.returns-clause-before c).After-index_mut))) c.put_in_parts.ensures.before

pub returns-clause-stays : goal.returns-clause-stays
returns-clause-stays c =
    on_err_weaker c.put_in_parts.result (table-put c.args.tables.now.items c.args.spot (λ (o : Option Kept). o) c.index_mut.result.now c.put_in_parts.new.parts (here (goal.at.returns-clause-stays c).After-index_mut)) c.put_in_parts.ensures.stays
