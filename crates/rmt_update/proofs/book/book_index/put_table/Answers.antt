use Rattle.std.proofs.Common.{◌≡◌, ◌+◌, ◌++◌, Some, append_assoc, refl, sym, ap, ◌∙◌, subst, take, arith}
use Rattle.std.specs.Prelude.{slice_get}
use Rattle.std.proofs.lemmas.List.{take_all}
use Rattle.rmt_bits.proofs.ListLaws.{slice_get-seen}
use Rattle.rmt_update.specs.IndexCells.{HasGathered, numbered, part_cells, table_cells}
use Rattle.rmt_update.proofs.IndexCells.{numbered-next}
use Rattle.rmt_update.proofs.book.book_index.put_table.Goals as goal

pub loop-part-preserved : goal.loop-part-preserved
loop-part-preserved c = λ xs h.
    let i = c.loop-part.part in
    let ps = c.args.parts.now in
    let p = c.index-parts-part.result in
    let at : slice_get ps i ≡ Some p = slice_get-seen ps ps i p refl c.loop-part-test.true c.index-parts-part.is in
    let so_far = numbered (part_cells c.args.table) 0 (take i ps) in
    let place : 0 + i ≡ i = omega arith in
    let next = numbered-next (part_cells c.args.table) 0 ps i p at ∙ ap (λ n. so_far ++ part_cells c.args.table n p) place in
    subst (λ zs. HasGathered (xs ++ zs) c.put_part.new.gathered) (sym next)
    (subst (λ zs. HasGathered zs c.put_part.new.gathered) (append_assoc xs so_far (part_cells c.args.table i p)) (c.in_ok-put_part.ensures (xs ++ so_far) (c.loop-part.invariant xs h)))

pub returns : goal.returns
returns c = λ xs h.
    subst (λ ps. HasGathered (xs ++ table_cells c.args.table ps) c.loop-part.gathered) (take_all c.loop-part.part c.args.parts.now c.loop-part-test.false) (c.loop-part.invariant xs h)
