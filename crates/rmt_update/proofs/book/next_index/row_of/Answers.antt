use Rattle.std.proofs.Common.{◌≡◌, ◌+◌, Some, sym, ap, ◌∙◌, arith}
use Rattle.std.specs.Prelude.{slice_get}
use Rattle.std.proofs.lemmas.Option.{slice_get-get_or}
use Rattle.rmt_book.specs.declared.table.PartCells.{PartCells}
use Rattle.rmt_book.specs.PartShape.{cell_count}
use Rattle.rmt_update.specs.RowIndex.{rows_before}
use Rattle.rmt_update.proofs.RowNumbers.{before-next, before-none, before-rises}
use Rattle.rmt_update.proofs.book.next_index.row_of.Goals as goal

pub loop-at-init : goal.loop-at-init
loop-at-init c = let none = before-none c.args.parts.now in omega (arith, none)

pub overflow_add-row : goal.overflow_add-row
overflow_add-row c =
    let ps = c.args.parts.now in
    let at = c.loop-at.at in
    let x = c.index-parts-at.result in
    let part = c.requires.part in
    let few = c.requires.few in
    let lt = c.loop-at-test.true in
    let there : slice_get ps at ≡ Some x = slice_get-get_or ps at x (omega (arith, lt, part)) ∙ ap Some (sym c.index-parts-at.is) in
    let next = before-next ps at x there in
    let rises = before-rises ps (at + 1) c.args.spot.part (omega (arith, lt)) in
    let count = c.cells-row.ensures.count in
    let so_far = c.loop-at.invariant in
    let size = ap (λ (y : PartCells). cell_count y.shape.grid) c.index-parts-at.is in
    omega (arith, next, rises, count, size, so_far, few)

pub loop-at-preserved : goal.loop-at-preserved
loop-at-preserved c =
    let ps = c.args.parts.now in
    let at = c.loop-at.at in
    let x = c.index-parts-at.result in
    let part = c.requires.part in
    let lt = c.loop-at-test.true in
    let there : slice_get ps at ≡ Some x = slice_get-get_or ps at x (omega (arith, lt, part)) ∙ ap Some (sym c.index-parts-at.is) in
    let next = before-next ps at x there in
    let count = c.cells-row.ensures.count in
    let so_far = c.loop-at.invariant in
    let size = ap (λ (y : PartCells). cell_count y.shape.grid) c.index-parts-at.is in
    omega (arith, next, count, size, so_far)

pub returns : goal.returns
returns c =
    let low = c.loop-at-test.false in
    let end = c.loop-at.auto.at-end in
    let here : c.loop-at.at ≡ c.args.spot.part = omega (arith, low, end) in
    c.loop-at.invariant ∙ ap (λ n. rows_before c.args.parts.now n + c.args.spot.cell) here
