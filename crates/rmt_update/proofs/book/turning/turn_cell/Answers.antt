use Rattle.std.proofs.Common.{◌≡◌, Some, sym, ap, ◌∙◌}
use Rattle.std.proofs.lemmas.Option.{slice_get-get_or}
use Rattle.std.specs.Prelude.{slice_get}
use Rattle.rmt_update.specs.Turning.{turned_by}
use Rattle.rmt_update.proofs.EnteringLaws.{table-put, there-part, there-within}
use Rattle.rmt_update.proofs.book.turning.turn_cell.Goals as goal

pub turn_in_parts-requires : goal.turn_in_parts-requires
turn_in_parts-requires c =
    let ts = c.args.tables.now.items in
    let s = c.args.turn.spot in
    let t = c.index_mut.result.now in
    let at : slice_get ts s.table ≡ Some t = slice_get-get_or ts s.table t (there-within ts s c.requires) ∙ ap Some (sym c.index_mut.ensures.value) in
    there-part ts s t at c.requires

pub returns : goal.returns
returns c =
    let ts = c.args.tables.now.items in
    let s = c.args.turn.spot in
    let t = c.index_mut.result.now in
    let at : slice_get ts s.table ≡ Some t = slice_get-get_or ts s.table t (there-within ts s c.requires) ∙ ap Some (sym c.index_mut.ensures.value) in
    table-put ts s (turned_by c.args.turn.turn) t c.turn_in_parts.new.parts at c.turn_in_parts.ensures
