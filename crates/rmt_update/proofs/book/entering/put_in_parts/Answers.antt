use Rattle.std.proofs.Common.{◌≡◌, Option, Some, sym, ap, ◌∙◌}
use Rattle.std.proofs.lemmas.Option.{slice_get-get_or}
use Rattle.std.proofs.lemmas.Result.{IfOk-weaker, on_err_weaker, on_ok_weaker}
use Rattle.std.specs.BTreeMap.{get}
use Rattle.std.specs.Ordering.{nat_cmp}
use Rattle.std.specs.Prelude.{option_and_then, slice_get}
use Rattle.rmt_book.specs.declared.kept.Kept.{Kept}
use Rattle.rmt_book.specs.declared.table.PartCells.{PartCells}
use Rattle.rmt_update.proofs.EnteringLaws.{part-put}
use Rattle.rmt_update.proofs.book.entering.put_in_parts.Goals as goal

pub returns-clause-put : goal.returns-clause-put
returns-clause-put c =
    let ps = c.args.parts.now.items in
    let p = c.index_mut.result.now in
    let at : slice_get ps c.args.at.part ≡ Some p = slice_get-get_or ps c.args.at.part p c.requires ∙ ap Some (sym c.index_mut.ensures.value) in
    on_ok_weaker c.put_in_part.result (part-put ps c.args.at (λ (o : Option Kept). Some c.args.kept) p c.put_in_part.new.part at) c.put_in_part.ensures.put

pub returns-clause-before : goal.returns-clause-before
returns-clause-before c =
    let ps = c.args.parts.now.items in
    let p = c.index_mut.result.now in
    let at : slice_get ps c.args.at.part ≡ Some p = slice_get-get_or ps c.args.at.part p c.requires ∙ ap Some (sym c.index_mut.ensures.value) in
    IfOk-weaker c.put_in_part.result _ _ (λ before is. is ∙ ap (λ (o : Option PartCells). option_and_then (λ (x : PartCells). get nat_cmp x.cells c.args.at.cell) o) (sym at)) c.put_in_part.ensures.before

pub returns-clause-stays : goal.returns-clause-stays
returns-clause-stays c =
    let ps = c.args.parts.now.items in
    let p = c.index_mut.result.now in
    let at : slice_get ps c.args.at.part ≡ Some p = slice_get-get_or ps c.args.at.part p c.requires ∙ ap Some (sym c.index_mut.ensures.value) in
    on_err_weaker c.put_in_part.result (part-put ps c.args.at (λ (o : Option Kept). o) p c.put_in_part.new.part at) c.put_in_part.ensures.stays
