use Rattle.std.proofs.Common.{◌≡◌, ◌+◌, ◌<◌, ◌++◌, ◌∷◌, [], List, Vec, length, refl, sym, ap, ◌∙◌, subst, take, unwrap_or, Option}
use Rattle.std.specs.Global.{Global}
use Rattle.std.specs.List.{AllZip}
use Rattle.std.specs.Prelude.{All}
use Rattle.std.proofs.lemmas.List.{take_all, take_more}
use Rattle.std.proofs.lemmas.Slice.Zip.{all_zipped_more}
use Rattle.rmt_bits.proofs.ListLaws.{slice_get-seen}
use Rattle.rmt_ast.specs.declared.entry.Entry.{Entry}
use Rattle.rmt_ast.specs.Changes.{list_of}
use Rattle.rmt_ast.specs.EntryLists.{IsEntry}
use Rattle.rmt_ast.specs.NameRules.{terms_of_name}
use Rattle.rmt_book.specs.declared.spots.Spot.{Spot}
use Rattle.rmt_book.specs.declared.table.PartCells.{PartCells}
use Rattle.rmt_book.specs.declared.table.TableCells.{TableCells}
use Rattle.rmt_update.specs.Refill.{AreRefilled, FitsInto, IsMoved, TableFits, spots_of}
use Rattle.rmt_update.proofs.AddedLaws.{added}
use Rattle.rmt_update.proofs.SmallLaws.{list-is}
use Rattle.rmt_update.proofs.book.refill.moved_parts.Goals as goal
use Rattle.rmt_update.proofs.book.refill.moved_parts.Goals.{After-as_slice}

-- the table at hand fits, and its entries and their spots are those at its node
fits-here : (c : After-as_slice) → TableFits c.args.entries.now c.args.spots.now c.table-item.result
fits-here c = subst (TableFits c.args.entries.now c.args.spots.now) (sym c.table-item.is) (c.requires c.loop-table.table-index c.table-item.result c.loop-table-test.true)

own-entries : (c : After-as_slice) → c.as_slice-own.result.now ≡ list_of c.args.entries.now c.table-item.result.name.node
own-entries c =
    c.as_slice-own.ensures
    ∙ list-is c.args.entries.now c.as_slice-lists.result.now c.table-item.result.name.node c.index-lists-node.result (fits-here c).within c.as_slice-lists.ensures c.index-lists-node.is

own-spots : (c : After-as_slice) → c.as_slice.result.now ≡ spots_of c.args.spots.now c.table-item.result.name.node
own-spots c =
    let spots = c.args.spots.now in
    c.as_slice.ensures ∙ sym (ap (λ (o : Option (List Spot)). unwrap_or o []) (slice_get-seen spots spots c.table-item.result.name.node c.index-spots-node.result refl (fits-here c).in_spots c.index-spots-node.is))

pub loop-table-preserved : goal.loop-table-preserved
loop-table-preserved c =
    let h = (goal.at.loop-table-preserved c).After-as_slice in
    let tables = c.args.tables.now in
    let lists = c.args.entries.now in
    let spots = c.args.spots.now in
    let i = c.loop-table.table-index in
    let t = c.table-item.result in
    let made = added c.refilled.result _ _ c.refilled.ensures c.in_ok-add_made.ensures in
    let v = made.0 in
    let R : TableCells → Vec PartCells Global → Type 0 = λ x w. IsMoved lists spots x w.items in
    let done : IsMoved lists spots t v.items =
    subst (λ (ss : List Spot). AreRefilled t (list_of lists t.name.node) ss (length (list_of lists t.name.node)) v.items) (own-spots h)
    (subst (λ (es : List Entry). AreRefilled t es c.as_slice.result.now (length es) v.items) (own-entries h) made.1) in
    let more : take (i + 1) tables ≡ take i tables ++ t ∷ [] = take_more tables i t c.loop-table-test.true ∙ ap (λ (x : TableCells). take i tables ++ x ∷ []) (sym c.table-item.is) in
    subst (λ (xs : List TableCells). AllZip R xs c.add_made.new.list.items) (sym more)
    (subst (λ (ws : List (Vec PartCells Global)). AllZip R (take i tables ++ t ∷ []) ws) (sym made.2) (all_zipped_more R (take i tables) c.loop-table.moved.items t v c.loop-table.invariant done))

pub bounds-lists-node : goal.bounds-lists-node
bounds-lists-node c =
    let fits = subst (TableFits c.args.entries.now c.args.spots.now) (sym c.table-item.is) (c.requires c.loop-table.table-index c.table-item.result c.loop-table-test.true) in
    subst (λ (ls : List (List Entry)). c.table-item.result.name.node < length ls) (sym c.as_slice-lists.ensures) fits.within

pub bounds-spots-node : goal.bounds-spots-node
bounds-spots-node c = (subst (TableFits c.args.entries.now c.args.spots.now) (sym c.table-item.is) (c.requires c.loop-table.table-index c.table-item.result c.loop-table-test.true)).in_spots

pub refilled-requires-clause-formed : goal.refilled-requires-clause-formed
refilled-requires-clause-formed c = (fits-here c).formed

pub refilled-requires-clause-entries : goal.refilled-requires-clause-entries
refilled-requires-clause-entries c =
    let t = c.table-item.result in
    subst (All (IsEntry t.name.node (terms_of_name t.name))) (sym (own-entries c)) (fits-here c).entries

pub refilled-requires-clause-keys : goal.refilled-requires-clause-keys
refilled-requires-clause-keys c = (fits-here c).few

pub refilled-requires-clause-fit : goal.refilled-requires-clause-fit
refilled-requires-clause-fit c =
    let t = c.table-item.result in
    subst (λ (es : List Entry). AllZip (FitsInto t) es c.as_slice.result.now) (sym (own-entries c))
    (subst (AllZip (FitsInto t) (list_of c.args.entries.now t.name.node)) (sym (own-spots c)) (fits-here c).fit)

pub returns : goal.returns
returns c =
    subst (λ (ts : List TableCells). AllZip (λ t (v : Vec PartCells Global). IsMoved c.args.entries.now c.args.spots.now t v.items) ts c.loop-table.moved.items)
    (take_all c.loop-table.table-index c.args.tables.now c.loop-table-test.false) c.loop-table.invariant
