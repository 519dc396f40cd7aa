use Rattle.std.proofs.Common.{◌≡◌, ◌≤◌, ◌+◌, List, Option, Some, length, length-append, refl, sym, ap, subst, take, ◌∙◌, arith}
use Rattle.std.specs.Prelude.{slice_get}
use Rattle.std.specs.BTreeMap.{get}
use Rattle.std.specs.Ordering.{nat_cmp}
use Rattle.std.proofs.lemmas.List.{take_all}
use Rattle.std.proofs.lemmas.List.FromFn.{length-map-range_with_len}
use Rattle.rmt_bits.proofs.ListLaws.{slice_get-seen}
use Rattle.rmt_book.specs.declared.kept.Kept.{Kept}
use Rattle.rmt_book.specs.declared.table.PartCells.{PartCells}
use Rattle.rmt_book.specs.PartShape.{cell_count}
use Rattle.rmt_update.specs.RowIndex.{AreRows, HaveOwnRows, never, part_rows, rows_of}
use Rattle.rmt_update.proofs.PutRows.{own-take, rows-none}
use Rattle.rmt_book.proofs.SliceLoops.{flat-next}
use Rattle.rmt_update.proofs.book.index.order_of.Goals as goal

pub loop-part-init : goal.loop-part-init
loop-part-init c = record {
  count = refl;
  few = omega arith;
  rows = rows-none c.args.table.now.name.kind c.args.odd never (record { rows = c.new.result; free = c.new-2.result }) c.new.ensures.empty c.new-2.ensures.empty;
}

pub overflow_sub-first : goal.overflow_sub-first
overflow_sub-first c = let few = c.loop-part.invariant.few in omega (arith, few)

pub put_rows-requires : goal.put_rows-requires
put_rows-requires c =
    let x = c.part-item.result in
    let long = length-map-range_with_len (get nat_cmp x.cells) 0 (cell_count x.shape.grid) in
    let count = c.cells-cells.ensures.count in
    let few = c.loop-part.invariant.few in
    let le = c.if-cells-first.false in
    omega (arith, long, count, few, le)

pub loop-part-preserved : goal.loop-part-preserved
loop-part-preserved c =
    let parts = c.args.table.now.parts.items in
    let i = c.loop-part.part-index in
    let x = c.part-item.result in
    let at : slice_get parts i ≡ Some x = slice_get-seen parts c.as_slice-part-items.result.now i x c.as_slice-part-items.ensures.value c.loop-part-test.true c.part-item.is in
    let next = flat-next part_rows parts i x at in
    let long = length-map-range_with_len (get nat_cmp x.cells) 0 (cell_count x.shape.grid) in
    let count = c.cells-cells.ensures.count in
    let few = c.loop-part.invariant.few in
    let before = c.loop-part.invariant.count in
    let le = c.if-cells-first.false in
    record {
      count = (let both = ap (λ (ys : List (Option Kept)). length ys) next ∙ length-append (rows_of (take i parts)) (part_rows x) in omega (arith, both, long, count, before));
      few = omega (arith, few, le);
      rows =
          subst (λ ys. AreRows c.args.table.now.name.kind c.args.odd never ys c.put_rows.new.order) (sym next)
          (c.in_ok-put_rows.ensures (rows_of (take i parts)) before (subst HaveOwnRows next (own-take parts (i + 1) c.requires.numbers)) c.loop-part.invariant.rows);
    }

pub returns-clause-few : goal.returns-clause-few
returns-clause-few c =
    let parts = c.args.table.now.parts.items in
    let low = c.loop-part-test.false in
    let all = ap (λ (xs : List PartCells). length (rows_of xs)) (take_all c.loop-part.part-index parts (subst (λ xs. length xs ≤ c.loop-part.part-index) c.as_slice-part-items.ensures.value (omega (arith, low)))) in
    let few = c.loop-part.invariant.few in
    let count = c.loop-part.invariant.count in
    omega (arith, all, few, count)

pub returns-clause-rows : goal.returns-clause-rows
returns-clause-rows c =
    let parts = c.args.table.now.parts.items in
    let low = c.loop-part-test.false in
    let all = take_all c.loop-part.part-index parts (subst (λ xs. length xs ≤ c.loop-part.part-index) c.as_slice-part-items.ensures.value (omega (arith, low))) in
    subst (λ xs. AreRows c.args.table.now.name.kind c.args.odd never (rows_of xs) c.loop-part.order) all c.loop-part.invariant.rows
