use Rattle.std.proofs.Common.{◌≡◌, ◌+◌, ◌*◌, ◌≤◌, length, map, ap, sym, subst, ◌∙◌, arith}
use Rattle.std.specs.Prelude.{IsTrue}
use Rattle.rmt_config.specs.BlockCounts.{divided_up, record_units, record_width}
use Rattle.rmt_config.specs.Order.{rises_from}
use Rattle.rmt_config.proofs.CellLayouts.{ternary_keys-is}
use Rattle.rmt_config.proofs.LayoutLaws.{at_layout, rows_in}
use Rattle.rmt_config.specs.LaneForm.{bits_of_lanes}
use Rattle.rmt_config.specs.StageForm.{trow_number}
use Rattle.rmt_config.specs.Types.{TcamRow}
use Rattle.rmt_config.specs.Layouts.{HasHeads, IsLayout, ternary_keys, ternary_records}
use Rattle.rmt_config.proofs.MemoryHolds.{all-there, breaks_first, entries-at, numbers-rise, rows-same, then_second}
use Rattle.rmt_config.proofs.form.memory.ternary_holds.Goals as goal

pub entries_hold-requires-clause-heads : goal.entries_hold-requires-clause-heads
entries_hold-requires-clause-heads c =
    let fit = c.requires.fits in
    let bits = c.args.place.now.slot.now.held + 8 in
    let is = rows_in c.args.quanta bits fit.some_d fit.most_d (omega arith) (omega (arith, fit.most_held)) in
    at_layout HasHeads c.ternary_records-layout.result (ternary_records c.args.quanta bits) c.ternary_records-layout.ensures
    (record { is = is.is; in_sram = is.in_sram; in_blocks = is.in_blocks; head = omega arith })

pub entries_hold-requires-clause-blocks : goal.entries_hold-requires-clause-blocks
entries_hold-requires-clause-blocks c =
    let bits = c.args.place.now.slot.now.held + 8 in
    at_layout (λ l. length c.args.records.now ≡ l.quanta * l.units * l.side) c.ternary_records-layout.result (ternary_records c.args.quanta bits) c.ternary_records-layout.ensures
    (all-there c.args.quanta (record_units 2 bits) (record_width bits) (length c.args.records.now) c.requires.fits.records)

pub key_bits-requires : goal.key_bits-requires
key_bits-requires c = subst (λ lanes. bits_of_lanes lanes ≤ 640) (sym c.as_slice.ensures) c.requires.fits.most_bits

pub ternary_keys-layout-requires : goal.ternary_keys-layout-requires
ternary_keys-layout-requires c = subst (λ bits. bits ≤ 640) (sym (c.key_bits.ensures ∙ ap bits_of_lanes c.as_slice.ensures)) c.requires.fits.most_bits

pub blocks_are_told-requires : goal.blocks_are_told-requires
blocks_are_told-requires c = record {
  layout =
      let fit = c.requires.fits in
      let bits = bits_of_lanes c.args.place.now.slot.now.keys in
      at_layout IsLayout c.ternary_keys-layout.result (ternary_keys c.args.quanta bits) (c.ternary_keys-layout.ensures ∙ ap (ternary_keys c.args.quanta) (c.key_bits.ensures ∙ ap bits_of_lanes c.as_slice.ensures))
      (ternary_keys-is c.args.quanta bits fit.some_d fit.most_d fit.some_bits fit.most_bits);
  blocks =
      let bits = bits_of_lanes c.args.place.now.slot.now.keys in
      at_layout (λ l. length c.args.keys.now ≤ l.quanta * l.units * l.side) c.ternary_keys-layout.result (ternary_keys c.args.quanta bits)
      (c.ternary_keys-layout.ensures ∙ ap (ternary_keys c.args.quanta) (c.key_bits.ensures ∙ ap bits_of_lanes c.as_slice.ensures))
      (let one : c.args.quanta * 1 ≡ c.args.quanta = omega arith in
      let all : length c.args.keys.now ≡ c.args.quanta * 1 * divided_up bits 40 = c.requires.fits.keys ∙ ap (λ d. d * divided_up bits 40) (sym one) in
      omega (arith, all));
  rise =
      numbers-rise c.args.place.now.stage.now c.args.place.now.slot.now c.args.place.now.visible c.args.place.now.first c.ternary_records-layout.result c.args.records.now c.as_slice-numbers.ensures
      (c.entries_hold.ensures.0 c.if-not-entries_hold.false);
  order = subst (λ rows. IsTrue (rises_from 0 (map trow_number rows))) (sym c.as_slice-2.ensures) c.requires.rows.trise;
}

pub returns-then-not-entries_hold : goal.returns-then-not-entries_hold
returns-then-not-entries_hold c =
    let p = c.args.place.now in
    breaks_first c.entries_hold.result _ _ (entries-at c.entries_hold.result p.stage.now p.slot.now p.visible p.first c.args.records.now c.ternary_records-layout.ensures c.entries_hold.ensures) c.if-not-entries_hold.true

pub returns : goal.returns
returns c =
    let p = c.args.place.now in
    let el = c.ternary_keys-layout.ensures ∙ ap (ternary_keys c.args.quanta) (c.key_bits.ensures ∙ ap bits_of_lanes c.as_slice.ensures) in
    let keys = rows-same trow_number (λ (r : TcamRow). r.mask) c.blocks_are_told.result (ternary_keys c.args.quanta (bits_of_lanes p.slot.now.keys)) c.ternary_keys-layout.result p.stage.now.trows c.as_slice-2.result.now p.slot.now.numbers c.as_slice-numbers.result.now c.args.keys.now
    el c.as_slice-2.ensures c.as_slice-numbers.ensures c.blocks_are_told.ensures in
    then_second c.entries_hold.result c.blocks_are_told.result _ _ (entries-at c.entries_hold.result p.stage.now p.slot.now p.visible p.first c.args.records.now c.ternary_records-layout.ensures c.entries_hold.ensures) c.if-not-entries_hold.false keys
