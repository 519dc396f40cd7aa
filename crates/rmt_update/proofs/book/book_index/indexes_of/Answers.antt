use Rattle.std.proofs.Common.{◌≡◌, ◌++◌, ◌∷◌, [], Some, refl, sym, subst, take}
use Rattle.std.specs.Prelude.{slice_get}
use Rattle.std.specs.List.{AllZip}
use Rattle.std.proofs.lemmas.List.{take_all}
use Rattle.rmt_bits.proofs.ListLaws.{slice_get-seen, take-slice_get, zip_push}
use Rattle.rmt_update.specs.RowIndex.{IsIndex, never}
use Rattle.rmt_update.proofs.AddedLaws.{added}
use Rattle.rmt_update.proofs.GoingLaws.{own-rows}
use Rattle.rmt_update.proofs.book.book_index.indexes_of.Goals as goal

pub loop-table-init : goal.loop-table-init
loop-table-init c = subst (AllZip (IsIndex c.args.odd never) []) (sym c.in_ok-indexes.ensures.items) tt

pub index_of-requires : goal.index_of-requires
index_of-requires c =
    let ts = c.args.tables.now in
    record { numbers = own-rows ts c.requires c.loop-table.table-index c.table-item.result (slice_get-seen ts ts c.loop-table.table-index c.table-item.result refl c.loop-table-test.true c.table-item.is) }

pub loop-table-preserved : goal.loop-table-preserved
loop-table-preserved c =
    let ts = c.args.tables.now in
    let i = c.loop-table.table-index in
    let t = c.table-item.result in
    let at : slice_get ts i ≡ Some t = slice_get-seen ts ts i t refl c.loop-table-test.true c.table-item.is in
    let made = added c.index_of.result _ _ c.index_of.ensures c.in_ok-add_made.ensures in
    subst (λ us. AllZip (IsIndex c.args.odd never) us c.add_made.new.list.items) (sym (take-slice_get ts i t at))
    (subst (AllZip (IsIndex c.args.odd never) (take i ts ++ t ∷ [])) (sym made.2)
    (zip_push (IsIndex c.args.odd never) (take i ts) c.loop-table.indexes.items t made.0 c.loop-table.invariant made.1))

pub returns : goal.returns
returns c = subst (λ us. AllZip (IsIndex c.args.odd never) us c.loop-table.indexes.items) (take_all c.loop-table.table-index c.args.tables.now c.loop-table-test.false) c.loop-table.invariant
