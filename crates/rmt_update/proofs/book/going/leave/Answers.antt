use Rattle.std.proofs.Common.{refl, ◌∙◌, subst, take}
use Rattle.std.specs.List.{AllZip}
use Rattle.std.proofs.lemmas.List.{take_all}
use Rattle.std.proofs.lemmas.Option.{slice_get-get_or}
use Rattle.rmt_bits.specs.Members.{is_among}
use Rattle.rmt_update.specs.RowIndex.{IsIndex}
use Rattle.rmt_update.proofs.GoingLaws.{leaves-more, leaves-none}
use Rattle.rmt_update.proofs.PlacedIndex.{finds-same}
use Rattle.rmt_update.proofs.book.going.leave.Goals as goal

pub loop-number-init : goal.loop-number-init
loop-number-init c = record {
  spots = refl;
  recent = refl;
  count = refl;
  tables = λ odd zip. leaves-none odd c.args.gone.now c.args.tables.now c.args.index.now.tables.items zip;
}

pub leave_one-requires-clause-cells : goal.leave_one-requires-clause-cells
leave_one-requires-clause-cells c = finds-same c.args.tables.now c.args.index.now c.loop-number.index c.loop-number.invariant.spots c.loop-number.invariant.recent c.requires.cells

pub leave_one-requires-clause-count : goal.leave_one-requires-clause-count
leave_one-requires-clause-count c = c.loop-number.invariant.count ∙ c.requires.count

pub loop-number-preserved : goal.loop-number-preserved
loop-number-preserved c = record {
  spots = c.leave_one.ensures.spots ∙ c.loop-number.invariant.spots;
  recent = c.leave_one.ensures.recent ∙ c.loop-number.invariant.recent;
  count = c.leave_one.ensures.count ∙ c.loop-number.invariant.count;
  tables = λ odd zip.
      let i = c.loop-number.number-index in
      leaves-more odd c.args.gone.now i _ c.args.tables.now c.leave_one.new.index.tables.items (slice_get-get_or c.args.gone.now i 0 c.loop-number-test.true)
      (c.leave_one.ensures.tables odd (is_among (take i c.args.gone.now)) (c.loop-number.invariant.tables odd zip));
}

pub returns-clause-tables : goal.returns-clause-tables
returns-clause-tables c = λ odd zip.
    subst (λ ns. AllZip (IsIndex odd (is_among ns)) c.args.tables.now c.loop-number.index.tables.items) (take_all c.loop-number.number-index c.args.gone.now c.loop-number-test.false) (c.loop-number.invariant.tables odd zip)
