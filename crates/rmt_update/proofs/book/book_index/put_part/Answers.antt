use Rattle.std.proofs.Common.{◌≡◌, ◌++◌, ◌∷◌, [], append_assoc, ℕ, map, sym, ◌∙◌, subst}
use Rattle.std.specs.Map.Iter.{deref_pair}
use Rattle.std.proofs.lemmas.Map.Iter.{iter_end}
use Rattle.rmt_book.specs.declared.kept.Kept.{Kept}
use Rattle.rmt_book.specs.declared.spot.BookSpot.{BookSpot}
use Rattle.rmt_update.specs.IndexCells.{HasGathered}
use Rattle.rmt_update.proofs.IndexCells.{cells_read, read-next}
use Rattle.rmt_update.proofs.book.book_index.put_part.Goals as goal

pub loop-cell-preserved : goal.loop-cell-preserved
loop-cell-preserved c = λ xs h.
    let so_far = cells_read c.args.table c.args.part c.loop-cell.yielded in
    let one : BookSpot × Kept = (record { table = c.args.table; at = record { part = c.args.part; cell = c.in-Some.cell.now } }, c.in-Some.kept.now) in
    subst (λ zs. HasGathered (xs ++ zs) c.put_cell.new.gathered) (sym (read-next c.args.table c.args.part c.loop-cell.yielded (c.in-Some.cell, c.in-Some.kept)))
    (subst (λ zs. HasGathered zs c.put_cell.new.gathered) (append_assoc xs so_far (one ∷ [])) (c.in_ok-put_cell.ensures (xs ++ so_far) (c.loop-cell.invariant xs h)))

pub returns : goal.returns
returns c = λ xs h.
    let all : map (deref_pair {K = ℕ} {X = Kept}) c.loop-cell.yielded ≡ c.args.own.now.cells.entries =
    (iter_end (deref_pair {K = ℕ} {X = Kept}) c.iter-cell-items.result c.loop-cell.yielded c.into_iter-cell-iterator.result c.loop-cell.cell-iterator c.next.new.self c.next.result
    c.into_iter-cell-iterator.ensures.into_iter_gives c.loop-cell.yielded_by c.in-None.is c.next.ensures.steps).0 ∙ c.iter-cell-items.ensures.rest in
    subst (λ es. HasGathered (xs ++ map (λ (e : ℕ × Kept). (record { table = c.args.table; at = record { part = c.args.part; cell = e.0 } }, e.1)) es) c.loop-cell.gathered) all (c.loop-cell.invariant xs h)
