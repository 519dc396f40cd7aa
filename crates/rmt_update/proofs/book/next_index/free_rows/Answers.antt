use Rattle.std.proofs.Common.{◌≡◌, ◌<◌, List, Some, get_or, length, sym, ap, ◌∙◌, subst, arith}
use Rattle.std.specs.Prelude.{slice_get}
use Rattle.std.proofs.lemmas.List.Elements.{Contains-get_or}
use Rattle.std.proofs.lemmas.Option.{slice_get-get_or}
use Rattle.rmt_book.specs.declared.spot.BookSpot.{BookSpot}
use Rattle.rmt_book.specs.declared.table.PartCells.{PartCells}
use Rattle.rmt_book.specs.declared.table.TableCells.{TableCells}
use Rattle.rmt_update.specs.NextIndex.{IsFewRow, IsRowFreed}
use Rattle.rmt_update.specs.RowIndex.{row_number}
use Rattle.rmt_update.proofs.EnteringLaws.{there-part, there-within}
use Rattle.rmt_update.proofs.NextIndexSteps.{few-row, freed-next}
use Rattle.rmt_update.proofs.book.next_index.free_rows.Goals as goal
use Rattle.rmt_update.proofs.book.next_index.free_rows.Goals.{After-index_mut}

-- the cell at hand
abbrev none : BookSpot
none = record { table = 0; at = record { part = 0; cell = 0 } }

abbrev spot : After-index_mut → BookSpot
spot c = get_or c.args.left.now c.loop-spot.spot-index none

at_spot : (c : After-index_mut) → slice_get c.args.left.now c.loop-spot.spot-index ≡ Some (spot c)
at_spot c = slice_get-get_or c.args.left.now c.loop-spot.spot-index none c.loop-spot-test.true

within : (c : After-index_mut) → (spot c).table < length c.args.tables.now
within c = there-within c.args.tables.now (spot c) (c.requires.there c.loop-spot.spot-index none c.loop-spot-test.true)

-- its table, and the index of that
at_table : (c : After-index_mut) → slice_get c.args.tables.now (spot c).table ≡ Some c.index-tables-spot.result
at_table c = slice_get-get_or c.args.tables.now (spot c).table c.index-tables-spot.result (within c) ∙ ap Some (sym c.index-tables-spot.is)

at_index : (c : After-index_mut) → slice_get c.loop-spot.indexes.items (spot c).table ≡ Some c.index_mut.result.now
at_index c =
    let lt = within c in
    let count = c.loop-spot.invariant.count in
    let same = c.requires.count in
    slice_get-get_or c.loop-spot.indexes.items (spot c).table c.index_mut.result.now (omega (arith, lt, count, same)) ∙ ap Some (sym c.index_mut.ensures.value)

pub free_row-requires-clause-few : goal.free_row-requires-clause-few
free_row-requires-clause-few c =
    let i = c.loop-spot.spot-index in
    let m = c.index_mut.result.now in
    let h = (goal.at.free_row-requires-clause-few c).After-index_mut in
    subst (λ ps. IsFewRow (row_number ps (spot h).at) m) (ap (λ (v : TableCells). v.parts.items) c.index-tables-spot.is ∙ sym c.as_slice-parts.ensures.value)
    (few-row c.args.tables.now c.args.left.now i (spot h) (at_spot h) c.index-tables-spot.result (at_table h) c.args.indexes.now.items c.loop-spot.indexes.items m (at_index h) c.loop-spot.invariant c.requires.few
    (Contains-get_or c.args.left.now i none c.loop-spot-test.true))

pub loop-spot-preserved : goal.loop-spot-preserved
loop-spot-preserved c =
    let m = c.index_mut.result.now in
    let h = (goal.at.loop-spot-preserved c).After-index_mut in
    freed-next c.args.tables.now c.args.left.now c.loop-spot.spot-index (spot h) (at_spot h) c.index-tables-spot.result (at_table h) c.args.indexes.now.items c.loop-spot.indexes.items m (at_index h) c.loop-spot.invariant c.free_row.new.index
    (subst (λ ps. IsRowFreed (row_number ps (spot h).at) m c.free_row.new.index) (c.as_slice-parts.ensures.value ∙ ap (λ (v : TableCells). v.parts.items) (sym c.index-tables-spot.is)) c.in_ok-free_row.ensures)

pub bounds-tables-spot : goal.bounds-tables-spot
bounds-tables-spot c = there-within c.args.tables.now (get_or c.args.left.now c.loop-spot.spot-index none) (c.requires.there c.loop-spot.spot-index none c.loop-spot-test.true)

pub index_mut-requires : goal.index_mut-requires
index_mut-requires c =
    let lt = there-within c.args.tables.now (get_or c.args.left.now c.loop-spot.spot-index none) (c.requires.there c.loop-spot.spot-index none c.loop-spot-test.true) in
    let count = c.loop-spot.invariant.count in
    let same = c.requires.count in
    let long = c.loop-spot.indexes.ok.0 in
    omega (arith, lt, count, same, long)

pub free_row-requires-clause-part : goal.free_row-requires-clause-part
free_row-requires-clause-part c =
    subst (λ (ps : List PartCells). (spot c).at.part < length ps) (ap (λ (v : TableCells). v.parts.items) c.index-tables-spot.is ∙ sym c.as_slice-parts.ensures.value)
    (there-part c.args.tables.now (spot c) c.index-tables-spot.result (at_table c) (c.requires.there c.loop-spot.spot-index none c.loop-spot-test.true))
