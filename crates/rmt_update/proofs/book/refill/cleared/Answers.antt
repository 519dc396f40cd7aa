use Rattle.std.proofs.Common.{◌+◌, List, refl, subst, sym, take, arith}
use Rattle.std.specs.List.{AllZip}
use Rattle.std.proofs.lemmas.List.{take_all}
use Rattle.std.proofs.lemmas.List.Elements.{all_zip_more}
use Rattle.rmt_book.specs.declared.table.PartCells.{PartCells}
use Rattle.rmt_update.specs.Refill.{IsCleared}
use Rattle.rmt_update.proofs.book.refill.cleared.Goals as goal

pub loop-part-preserved : goal.loop-part-preserved
loop-part-preserved c =
    let parts = c.args.parts.now in
    let i = c.loop-part.part-index in
    let x = c.part-item.result in
    let made : PartCells = record { stage = x.stage; place = x.place; first = x.first; shape = x.shape; cells = c.new.result } in
    subst (λ (ys : List PartCells). AllZip IsCleared (take (i + 1) parts) ys) (sym c.in_ok-push.ensures.items)
    (all_zip_more IsCleared parts c.loop-part.clear.items i x made c.loop-part-test.true c.part-item.is c.loop-part.invariant
    (record { same = record { stage = refl; place = refl; first = refl; shape = refl }; none = c.new.ensures.empty; ordered = c.new.ensures.ordered }))

pub returns : goal.returns
returns c =
    let past = c.loop-part-test.false in
    subst (λ (ps : List PartCells). AllZip IsCleared ps c.loop-part.clear.items) (take_all c.loop-part.part-index c.args.parts.now (omega (arith, past))) c.loop-part.invariant
