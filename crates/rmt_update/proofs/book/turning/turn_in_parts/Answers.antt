use Rattle.std.proofs.Common.{◌≡◌, Some, sym, ap, ◌∙◌}
use Rattle.std.proofs.lemmas.Option.{slice_get-get_or}
use Rattle.std.specs.Prelude.{slice_get}
use Rattle.rmt_update.specs.Turning.{turned_by}
use Rattle.rmt_update.proofs.EnteringLaws.{part-put}
use Rattle.rmt_update.proofs.book.turning.turn_in_parts.Goals as goal

pub returns : goal.returns
returns c =
    let ps = c.args.parts.now.items in
    let p = c.index_mut.result.now in
    let at : slice_get ps c.args.at.part ≡ Some p = slice_get-get_or ps c.args.at.part p c.requires ∙ ap Some (sym c.index_mut.ensures.value) in
    part-put ps c.args.at (turned_by c.args.turn) p c.turn_in_part.new.part at c.turn_in_part.ensures
