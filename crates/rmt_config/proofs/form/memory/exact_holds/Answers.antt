use Rattle.std.proofs.Common.{◌≡◌, ◌*◌, ◌≤◌, length, map, refl, sym, subst, arith}
use Rattle.std.specs.Prelude.{IsTrue}
use Rattle.rmt_config.specs.BlockCounts.{record_units, record_width}
use Rattle.rmt_config.specs.LaneForm.{bits_of_lanes}
use Rattle.rmt_config.specs.Order.{rises_from}
use Rattle.rmt_config.proofs.CellLayouts.{exact_records-is}
use Rattle.rmt_config.proofs.LayoutLaws.{at_layout, keys_in}
use Rattle.rmt_config.specs.StageForm.{srow_number}
use Rattle.rmt_config.specs.Types.{SramRow}
use Rattle.rmt_config.specs.Layouts.{exact_keys, exact_records, HasHeads, IsLayout}
use Rattle.rmt_config.proofs.MemoryHolds.{all-there, breaks_first, entries-at, no_records, numbers-rise, rows-same, then_second}
use Rattle.rmt_config.proofs.form.memory.exact_holds.Goals as goal

pub entries_hold-requires-clause-heads : goal.entries_hold-requires-clause-heads
entries_hold-requires-clause-heads c =
    let fit = c.requires.fits in
    let bits = bits_of_lanes c.args.place.now.slot.now.keys in
    let is = keys_in c.args.width c.args.per c.args.quanta bits fit.some_k fit.most_k fit.some_p fit.most_p fit.some_d fit.most_d fit.most_bits fit.fits in
    at_layout HasHeads c.exact_entries-layout.result (exact_keys c.args.width c.args.per c.args.quanta bits) c.exact_entries-layout.ensures
    (record { is = is.is; in_sram = is.in_sram; in_blocks = is.in_blocks; head = omega arith })

pub entries_hold-requires-clause-blocks : goal.entries_hold-requires-clause-blocks
entries_hold-requires-clause-blocks c =
    let bits = bits_of_lanes c.args.place.now.slot.now.keys in
    at_layout (λ l. length c.args.keys.now ≡ l.quanta * l.units * l.side) c.exact_entries-layout.result (exact_keys c.args.width c.args.per c.args.quanta bits) c.exact_entries-layout.ensures
    (all-there c.args.quanta 4 c.args.width (length c.args.keys.now) c.requires.fits.keys)

pub blocks_are_told-requires : goal.blocks_are_told-requires
blocks_are_told-requires c = record {
  layout =
      let fit = c.requires.fits in
      let held = c.args.place.now.slot.now.held in
      at_layout IsLayout c.exact_records-layout.result (exact_records c.args.per c.args.quanta held) c.exact_records-layout.ensures
      (exact_records-is c.args.per c.args.quanta held fit.some_p fit.most_p fit.some_d fit.most_d (omega (arith, c.if-place-eq0.false)) fit.most_held);
  blocks =
      let held = c.args.place.now.slot.now.held in
      at_layout (λ l. length c.args.records.now ≤ l.quanta * l.units * l.side) c.exact_records-layout.result (exact_records c.args.per c.args.quanta held) c.exact_records-layout.ensures
      (let all = all-there c.args.quanta (record_units (4 * c.args.per) held) (record_width held) (length c.args.records.now) c.requires.fits.records in omega (arith, all));
  rise =
      numbers-rise c.args.place.now.stage.now c.args.place.now.slot.now c.args.place.now.visible c.args.place.now.first c.exact_entries-layout.result c.args.keys.now c.as_slice-numbers.ensures
      (c.entries_hold.ensures.0 c.if-not-entries_hold.false);
  order = subst (λ rows. IsTrue (rises_from 0 (map srow_number rows))) (sym c.as_slice.ensures) c.requires.rows.srise;
}

pub returns-then-not-entries_hold : goal.returns-then-not-entries_hold
returns-then-not-entries_hold c =
    let p = c.args.place.now in
    breaks_first c.entries_hold.result _ _ (entries-at c.entries_hold.result p.stage.now p.slot.now p.visible p.first c.args.keys.now c.exact_entries-layout.ensures c.entries_hold.ensures) c.if-not-entries_hold.true

pub returns-then-place-eq0 : goal.returns-then-place-eq0
returns-then-place-eq0 c =
    let p = c.args.place.now in
    let found = entries-at c.entries_hold.result p.stage.now p.slot.now p.visible p.first c.args.keys.now c.exact_entries-layout.ensures c.entries_hold.ensures in
    (λ _. (found.0 c.if-not-entries_hold.false, no_records p.stage.now p.slot.now c.args.per c.args.quanta c.args.records.now c.if-place-eq0.true c.requires.fits.records), λ _. refl)

pub returns : goal.returns
returns c =
    let p = c.args.place.now in
    let more = rows-same srow_number (λ (r : SramRow). r.bits) c.blocks_are_told.result (exact_records c.args.per c.args.quanta p.slot.now.held) c.exact_records-layout.result p.stage.now.srows c.as_slice.result.now p.slot.now.numbers c.as_slice-numbers.result.now c.args.records.now
    c.exact_records-layout.ensures c.as_slice.ensures c.as_slice-numbers.ensures c.blocks_are_told.ensures in
    then_second c.entries_hold.result c.blocks_are_told.result _ _ (entries-at c.entries_hold.result p.stage.now p.slot.now p.visible p.first c.args.keys.now c.exact_entries-layout.ensures c.entries_hold.ensures) c.if-not-entries_hold.false more
