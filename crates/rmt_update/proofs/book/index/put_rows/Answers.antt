use Rattle.std.proofs.Common.{◌≡◌, ◌++◌, map, sym, subst, arith}
use Rattle.std.specs.List.{range_with_len}
use Rattle.std.specs.BTreeMap.{get}
use Rattle.std.specs.Ordering.{nat_cmp}
use Rattle.std.proofs.lemmas.List.{append-nil}
use Rattle.std.proofs.lemmas.List.FromFn.{length-map-range_with_len}
use Rattle.rmt_book.specs.PartShape.{cell_count}
use Rattle.rmt_update.specs.RowIndex.{AreRows, never}
use Rattle.rmt_update.proofs.PutRows.{put-next}
use Rattle.rmt_update.proofs.book.index.put_rows.Goals as goal

pub loop-cell-init : goal.loop-cell-init
loop-cell-init c = λ xs count own are. subst (λ ys. AreRows c.args.kind c.args.odd never ys c.args.order.now) (sym (append-nil xs)) are

pub overflow_add-first : goal.overflow_add-first
overflow_add-first c =
    let few = c.requires in
    let long = length-map-range_with_len (get nat_cmp c.args.part.now.cells) 0 (cell_count c.args.part.now.shape.grid) in
    let count = c.cells-cell-end.ensures.count in
    let lt = c.loop-cell-test.true in
    omega (arith, few, long, count, lt)

pub loop-cell-preserved : goal.loop-cell-preserved
loop-cell-preserved c = λ xs count own are.
    let lt = c.loop-cell-test.true in
    let size = c.cells-cell-end.ensures.count in
    put-next c.args.kind c.args.odd never (get nat_cmp c.args.part.now.cells) (cell_count c.args.part.now.shape.grid) c.loop-cell.cell-counter c.args.first xs _ c.loop-cell.order c.put_row.new.order (omega (arith, lt, size)) count own
    c.get.ensures.value (c.loop-cell.invariant xs count own are) c.in_ok-put_row.ensures

pub returns : goal.returns
returns c = λ xs count own are.
    let low = c.loop-cell-test.false in
    let most = c.loop-cell.auto.cell-counter-end in
    let size = c.cells-cell-end.ensures.count in
    let end : c.loop-cell.cell-counter ≡ cell_count c.args.part.now.shape.grid = omega (arith, low, most, size) in
    subst (λ n. AreRows c.args.kind c.args.odd never (xs ++ map (get nat_cmp c.args.part.now.cells) (range_with_len 0 n)) c.loop-cell.order) end (c.loop-cell.invariant xs count own are)
