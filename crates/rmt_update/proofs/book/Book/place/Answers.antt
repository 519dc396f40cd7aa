use Rattle.std.proofs.Common.{◌+◌, List, [], Some, length, refl, sym, ap, ◌∙◌, subst, take, arith}
use Rattle.std.specs.Prelude.{All}
use Rattle.std.specs.List.{AllZip}
use Rattle.std.proofs.lemmas.Option.{slice_get-get_or, slice_get_within}
use Rattle.rmt_bits.specs.Members.{is_among}
use Rattle.rmt_book.specs.declared.table.TableCells.{TableCells}
use Rattle.rmt_update.specs.BookIndex.{AreApart, FindsCells}
use Rattle.rmt_update.specs.Come.{AreOrdered, HaveCome, IsRunOf, MayHaveCome, Run, come_to}
use Rattle.rmt_update.specs.RowIndex.{IsIndex, never}
use Rattle.rmt_update.proofs.ApartLaws.{apart}
use Rattle.rmt_update.proofs.ComeCount.{few-placed}
use Rattle.rmt_update.proofs.PlacedIndex.{PlacedSoFar, finds-same, so-far-all, so-far-next, so-far-none}
use Rattle.rmt_update.proofs.PlacingSteps.{come-start, place-none, place-some}
use Rattle.rmt_update.proofs.ZipLaws.{zip-length}
use Rattle.rmt_update.proofs.book.Book.place.Goals as goal

pub loop-at-init : goal.loop-at-init
loop-at-init c =
    let b = c.args.self.now in
    let ch = c.args.changes.now in
    record {
      come = λ w run.
          subst (λ xs. HaveCome w b ch [] xs) (sym c.new-placing.ensures)
          (come-start w b ch run (subst (All AreOrdered) c.as_slice.ensures.value c.all_ordered.ensures));
      cells = finds-same b.tables.items c.args.index.now c.leave.new.index c.leave.ensures.spots c.leave.ensures.recent c.requires.index.cells;
      rows =
          subst (λ xs. PlacedSoFar b.odd ch.gone b.tables.items 0 xs c.leave.new.index.tables.items) (sym c.new-placing.ensures)
          (so-far-none b.odd ch.gone b.tables.items c.leave.new.index.tables.items
          (subst (λ ns. AllZip (IsIndex b.odd (is_among ns)) b.tables.items c.leave.new.index.tables.items) c.as_slice-3.ensures
          (subst (λ ts. AllZip (IsIndex b.odd (is_among c.as_slice-3.result.now)) ts c.leave.new.index.tables.items) c.as_slice-2.ensures.value
          (c.leave.ensures.tables b.odd (subst (λ ts. AllZip (IsIndex b.odd never) ts c.args.index.now.tables.items) (sym c.as_slice-2.ensures.value) c.requires.index.tables)))));
    }

pub leave-requires-clause-apart : goal.leave-requires-clause-apart
leave-requires-clause-apart c =
    subst AreApart (sym c.as_slice-2.ensures.value) (apart c.requires.may.0 c.requires.may.2 c.requires.may.3 c.args.self.now c.requires.may.4)

pub leave-requires-clause-cells : goal.leave-requires-clause-cells
leave-requires-clause-cells c = subst (λ ts. FindsCells ts c.args.index.now) (sym c.as_slice-2.ensures.value) c.requires.index.cells

pub leave-requires-clause-count : goal.leave-requires-clause-count
leave-requires-clause-count c =
    sym (zip-length (IsIndex c.args.self.now.odd never) c.args.self.now.tables.items c.args.index.now.tables.items c.requires.index.tables) ∙ ap (λ (ts : List TableCells). length ts) (sym c.as_slice-2.ensures.value)

pub place_in-requires-clause-index : goal.place_in-requires-clause-index
place_in-requires-clause-index c = λ t at_t.
    let os = c.loop-at.index.tables.items in
    let o = c.index_mut.result.now in
    let lt = slice_get_within c.args.self.now.tables.items c.loop-at.at t at_t in
    let count = c.loop-at.invariant.rows.count in
    c.loop-at.invariant.rows.ahead c.loop-at.at t o (omega arith) at_t (slice_get-get_or os c.loop-at.at o (omega (arith, lt, count)) ∙ ap Some (sym c.index_mut.ensures.value))

pub place_in-requires-clause-run : goal.place_in-requires-clause-run
place_in-requires-clause-run c =
    let w : Run = record { config = c.requires.may.0; names = c.requires.may.1; cells = c.requires.may.2; lists = c.requires.may.3 } in
    let run : IsRunOf c.args.self.now c.args.changes.now w = record { stands = c.requires.may.4; named = c.requires.may.5; may = c.requires.may.6 } in
    (w, run, c.loop-at.invariant.come w run)

pub returns-then-not-branch-clause-placing : goal.returns-then-not-branch-clause-placing
returns-then-not-branch-clause-placing c = λ config names cells lists stands named may.
    let w : Run = record { config = config; names = names; cells = cells; lists = lists } in
    let run : IsRunOf c.args.self.now c.args.changes.now w = record { stands = stands; named = named; may = may } in
    place-none w c.args.self.now c.args.changes.now run (subst (All AreOrdered) c.as_slice.ensures.value c.all_ordered.ensures) (c.loop-at.at + 1)
    (subst (MayHaveCome w c.args.self.now c.args.changes.now (come_to c.args.changes.now (take (c.loop-at.at + 1) c.args.self.now.tables.items)) c.place_in.new.placing) c.if-not-branch.true
    (c.in_ok-place_in.ensures.come w run (c.loop-at.invariant.come w run)))

pub loop-at-preserved : goal.loop-at-preserved
loop-at-preserved c =
    let b = c.args.self.now in
    let ch = c.args.changes.now in
    let at = c.loop-at.at in
    let os = c.loop-at.index.tables.items in
    let o = c.index_mut.result.now in
    let lt = c.loop-at-test.true in
    let long = c.len-at-end.ensures in
    let count = c.loop-at.invariant.rows.count in
    record {
      come = λ w run.
          subst (MayHaveCome w b ch (come_to ch (take (at + 1) b.tables.items)) c.place_in.new.placing) c.if-not-branch.false
          (c.in_ok-place_in.ensures.come w run (c.loop-at.invariant.come w run));
      cells = finds-same b.tables.items c.loop-at.index _ refl refl c.loop-at.invariant.cells;
      rows =
          so-far-next b.odd ch.gone b.tables.items at c.loop-at.placing c.place_in.new.placing os o c.place_in.new.index c.loop-at.invariant.rows
          (slice_get-get_or os at o (omega (arith, lt, long, count)) ∙ ap Some (sym c.index_mut.ensures.value)) (c.in_ok-place_in.ensures.index c.if-not-branch.false);
    }

pub returns-clause-index : goal.returns-clause-index
returns-clause-index c =
    let b = c.args.self.now in
    let low = c.loop-at-test.false in
    let long = c.len-at-end.ensures in
    so-far-all b.odd c.args.changes.now.gone b.tables.items c.loop-at.at c.loop-at.placing c.loop-at.index (omega (arith, low, long)) c.loop-at.invariant.cells c.loop-at.invariant.rows

pub returns-clause-placing : goal.returns-clause-placing
returns-clause-placing c = λ config names cells lists stands named may.
    let w : Run = record { config = config; names = names; cells = cells; lists = lists } in
    let run : IsRunOf c.args.self.now c.args.changes.now w = record { stands = stands; named = named; may = may } in
    let low = c.loop-at-test.false in
    let long = c.len-at-end.ensures in
    place-some w c.args.self.now c.args.changes.now run (subst (All AreOrdered) c.as_slice.ensures.value c.all_ordered.ensures) c.loop-at.at c.loop-at.placing (omega (arith, low, long)) (c.loop-at.invariant.come w run)

pub returns-clause-few : goal.returns-clause-few
returns-clause-few c =
    let w : Run = record { config = c.requires.may.0; names = c.requires.may.1; cells = c.requires.may.2; lists = c.requires.may.3 } in
    let run : IsRunOf c.args.self.now c.args.changes.now w = record { stands = c.requires.may.4; named = c.requires.may.5; may = c.requires.may.6 } in
    let ordered = subst (All AreOrdered) c.as_slice.ensures.value c.all_ordered.ensures in
    let low = c.loop-at-test.false in
    let long = c.len-at-end.ensures in
    few-placed w c.args.self.now c.args.changes.now run ordered c.loop-at.placing
    (place-some w c.args.self.now c.args.changes.now run ordered c.loop-at.at c.loop-at.placing (omega (arith, low, long)) (c.loop-at.invariant.come w run))

pub index_mut-requires : goal.index_mut-requires
index_mut-requires c = omega (arith, c.loop-at-test.true, c.len-at-end.ensures, c.args.self.now.tables.ok.0, c.loop-at.index.tables.ok.0, c.loop-at.invariant.rows.count)

pub place_in-requires-clause-ordered : goal.place_in-requires-clause-ordered
place_in-requires-clause-ordered c = subst (All AreOrdered) c.as_slice.ensures.value c.all_ordered.ensures

pub place_in-requires-clause-at : goal.place_in-requires-clause-at
place_in-requires-clause-at c = omega (arith, c.loop-at-test.true, c.len-at-end.ensures, c.args.self.now.tables.ok.0)
