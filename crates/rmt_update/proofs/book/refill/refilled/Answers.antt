use Rattle.std.proofs.Common.{◌≡◌, ◌≤◌, ◌<◌, List, Some, get_or, length, refl, subst, sym, sum, ap, arith}
use Rattle.std.specs.Prelude.{slice_get}
use Rattle.std.specs.List.{AllZip}
use Rattle.std.proofs.lemmas.Option.{slice_get-get_or, slice_get_within}
use Rattle.std.proofs.lemmas.Slice.Zip.{AllZip-long}
use Rattle.rmt_bits.proofs.AllLaws.{All-slice_get}
use Rattle.rmt_bits.proofs.ListLaws.{AllZip-slice_get, slice_get-seen}
use Rattle.rmt_ast.specs.EntryLists.{IsEntry}
use Rattle.rmt_ast.specs.NameRules.{terms_of_name}
use Rattle.rmt_book.specs.declared.shape.PartShape.{PartShape}
use Rattle.rmt_book.specs.declared.spots.Spot.{Spot}
use Rattle.rmt_book.specs.declared.table.PartCells.{PartCells}
use Rattle.rmt_update.specs.Refill.{AreRefilled, FitsInto, IsCleared, SamePart}
use Rattle.rmt_update.proofs.RefillLaws.{none-refilled, refilled-more}
use Rattle.rmt_update.proofs.book.refill.refilled.Goals as goal
use Rattle.rmt_update.proofs.book.refill.refilled.Goals.{After-index-entries-at}

-- the spot of the entry at hand
abbrev none : Spot
none = record { part = 0; cell = 0 }

abbrev spot : After-index-entries-at → Spot
spot c = get_or c.args.spots.now c.loop-at.at none

at_entry : (c : After-index-entries-at) → slice_get c.args.entries.now c.loop-at.at ≡ Some c.index-entries-at.result
at_entry c = slice_get-seen c.args.entries.now c.args.entries.now c.loop-at.at c.index-entries-at.result refl c.loop-at-test.true c.index-entries-at.is

at_spot : (c : After-index-entries-at) → slice_get c.args.spots.now c.loop-at.at ≡ Some (spot c)
at_spot c =
    let long = AllZip-long (FitsInto c.args.table.now) c.args.entries.now c.args.spots.now c.requires.fit in
    let lt = c.loop-at-test.true in
    slice_get-get_or c.args.spots.now c.loop-at.at none (omega (arith, lt, long))

-- into which it fits
fits : (c : After-index-entries-at) → FitsInto c.args.table.now c.index-entries-at.result (spot c)
fits c = AllZip-slice_get (FitsInto c.args.table.now) c.args.entries.now c.args.spots.now c.loop-at.at c.index-entries-at.result (spot c) c.requires.fit (at_entry c) (at_spot c)

within : (c : After-index-entries-at) → (spot c).part < length c.loop-at.parts.items
within c =
    let f = fits c in
    let inside = slice_get_within c.args.table.now.parts.items (spot c).part f.part f.there in
    let many = AllZip-long SamePart c.args.table.now.parts.items c.loop-at.parts.items c.loop-at.invariant.same in
    omega (arith, inside, many)

pub loop-at-init : goal.loop-at-init
loop-at-init c =
    none-refilled c.args.table.now c.args.entries.now c.args.spots.now c.in_ok-parts.parts.items (subst (λ (ps : List PartCells). AllZip IsCleared ps c.in_ok-parts.parts.items) c.as_slice.ensures.value c.in_ok-parts.ensures)

pub index_mut-requires : goal.index_mut-requires
index_mut-requires c = let inside = within (goal.at.index_mut-requires c).After-index-entries-at in omega (arith, inside, c.loop-at.parts.ok.0)

pub put_entry-requires-clause-entry : goal.put_entry-requires-clause-entry
put_entry-requires-clause-entry c =
    let x = c.args.table.now in
    All-slice_get (IsEntry x.name.node (terms_of_name x.name)) c.args.entries.now c.loop-at.at c.index-entries-at.result c.requires.entries (at_entry (goal.at.put_entry-requires-clause-entry c).After-index-entries-at)

pub loop-at-preserved : goal.loop-at-preserved
loop-at-preserved c =
    let at = goal.at.loop-at-preserved c in
    let h = at.After-index-entries-at in
    let here = slice_get-seen c.loop-at.parts.items c.loop-at.parts.items (spot h).part c.index_mut.result.now refl (within h) c.index_mut.ensures.value in
    refilled-more c.args.table.now c.args.entries.now c.args.spots.now c.loop-at.at c.loop-at.parts.items c.index-entries-at.result (spot h) c.index_mut.result.now c.put_entry.new.part c.loop-at.invariant
    (at_entry h) (at_spot h) here c.in_ok-put_entry.ensures

pub bounds-spots-at : goal.bounds-spots-at
bounds-spots-at c =
    let long = AllZip-long (FitsInto c.args.table.now) c.args.entries.now c.args.spots.now c.requires.fit in
    let lt = c.loop-at-test.true in
    omega (arith, lt, long)

pub put_entry-requires-clause-room : goal.put_entry-requires-clause-room
put_entry-requires-clause-room c =
    let at = goal.at.put_entry-requires-clause-room c in
    let h = at.After-index-entries-at in
    let f = fits h in
    let here = slice_get-seen c.loop-at.parts.items c.loop-at.parts.items (spot h).part c.index_mut.result.now refl (within h) c.index_mut.ensures.value in
    let same = AllZip-slice_get SamePart c.args.table.now.parts.items c.loop-at.parts.items (spot h).part f.part c.index_mut.result.now c.loop-at.invariant.same f.there here in
    λ a there. subst (λ h. sum a.params ≤ h) (sym (ap (λ (z : PartShape). z.held) same.shape)) (f.room a there)

pub returns : goal.returns
returns c =
    let past = c.loop-at-test.false in
    let high = c.loop-at.auto.at-end in
    let all : c.loop-at.at ≡ length c.args.entries.now = omega (arith, past, high) in
    subst (λ n. AreRefilled c.args.table.now c.args.entries.now c.args.spots.now n c.loop-at.parts.items) all c.loop-at.invariant
