use Rattle.std.proofs.Common.{◌≡◌, ℕ, List, ◌+◌, ◌-◌, ◌*◌, ◌/◌, ◌%◌, ◌<◌, length, refl, sym, ap, ◌∙◌, arith}
use Rattle.rmt_bits.specs.Bits.{number_of}
use Rattle.rmt_bits.proofs.BitLaws.{slice-lt}
use Rattle.rmt_bits.proofs.ByteLaws.{length-bytes_of}
use Rattle.rmt_config.specs.declared.form.layout.CellLayout.{CellLayout}
use Rattle.rmt_config.specs.LaneForm.{bits_of_lanes}
use Rattle.rmt_config.specs.BlockCounts.{divided_up}
use Rattle.rmt_config.specs.Cells.{sram_row, cell_of, data_at}
use Rattle.rmt_config.specs.Layouts.{IsInSram, entry_in, exact_keys, local_of, quantum_of}
use Rattle.rmt_config.proofs.CellLayouts.{exact-entry}
use Rattle.rmt_book.proofs.KeptLaws.{bytes-few}
use Rattle.rmt_book.proofs.cells.exact_cell.Goals as goal
use Rattle.rmt_book.proofs.cells.exact_cell.Goals.{After-exact_keys-layout}
use Rattle.rmt_config.proofs.LayoutLaws.{at_layout, bytes_hold, keys_in}

pub headed_entry-requires-clause-there : goal.headed_entry-requires-clause-there
headed_entry-requires-clause-there c =
    let slot = c.args.slot.now in
    let part = c.args.part.now in
    let f = c.requires.fits in
    let same : c.key_bits-bits.result ≡ bits_of_lanes slot.keys = c.key_bits-bits.ensures ∙ ap bits_of_lanes c.as_slice.ensures in
    let own = exact_keys part.width part.per part.quanta (bits_of_lanes slot.keys) in
    let layout = c.exact_keys-layout.ensures ∙ ap (exact_keys part.width part.per part.quanta) same in
    record {
      rows = c.requires.rows;
      layout = at_layout IsInSram c.exact_keys-layout.result own layout (keys_in part.width part.per part.quanta (bits_of_lanes slot.keys) f.some_k f.most_k f.some_p f.most_p f.some_d f.most_d f.most_bits f.fits);
      blocks = at_layout (λ l. length part.keys.now ≡ l.quanta * l.units * l.side) c.exact_keys-layout.result own layout (let h = f.keys in omega (arith, h));
      cell = at_layout (λ l. c.args.number.cell < l.ways * l.quanta * l.way) c.exact_keys-layout.result own layout (let h = c.requires.cell in omega (arith, h));
    }

-- an entry has the bits of a key above its head
long : (c : After-exact_keys-layout) → c.exact_keys-layout.result.entry ≡ c.key_bits-bits.result + 8
long c = ap (λ (l : CellLayout). l.entry) c.exact_keys-layout.ensures

pub headed_entry-requires-clause-head : goal.headed_entry-requires-clause-head
headed_entry-requires-clause-head c = let e = long (goal.at.headed_entry-requires-clause-head c).After-exact_keys-layout in omega (arith, e)

pub headed_entry-requires-clause-few : goal.headed_entry-requires-clause-few
headed_entry-requires-clause-few c =
    let e = long (goal.at.headed_entry-requires-clause-few c).After-exact_keys-layout in
    let few = c.requires.fits.most_bits in
    let same = c.key_bits-bits.ensures ∙ ap bits_of_lanes c.as_slice.ensures in
    omega (arith, e, few, same)

pub invariant_of-result-clause-held_short : goal.invariant_of-result-clause-held_short
invariant_of-result-clause-held_short c = bytes-few c.args.slot.now.held _ c.in_ok-held.held.items c.in_ok-held.ensures c.requires.fits.most_held

pub returns-clause-kept : goal.returns-clause-kept
returns-clause-kept c = λ w cs.
    let slot = c.args.slot.now in
    let k = c.args.part.now.width in
    let p = c.args.part.now.per in
    let d = c.args.part.now.quanta in
    let n = c.args.number.cell in
    let bits = bits_of_lanes slot.keys in
    let sram = sram_row c.args.rows.now in
    let keys = c.args.part.now.keys.now in
    let fits = c.requires.fits in
    let layout : c.exact_keys-layout.result ≡ exact_keys k p d bits = c.exact_keys-layout.ensures ∙ ap (exact_keys k p d) (c.key_bits-bits.ensures ∙ ap bits_of_lanes c.as_slice.ensures) in
    let value = ap (λ (l : CellLayout). entry_in l sram keys (quantum_of l n) (local_of l n)) layout ∙ sym (exact-entry sram keys k p d bits n fits.some_p fits.some_d) in
    let head = c.in_ok-entry.ensures.head ∙ ap (λ v. v % 256) value in
    let held = data_at sram c.args.part.now.records.now p slot.held (cell_of (1024 * d) p n) in
    record {
      cell = refl;
      number = refl;
      visible = ap (λ x. x / 2 % 4) head;
      code = ap (λ x. x / 8) head;
      key = c.in_ok-entry.ensures.rest ∙ ap (λ v. v / 256) value;
      mask = refl;
      held = ap number_of c.in_ok-held.ensures ∙ bytes_hold slot.held held (slice-lt _ _ slot.held);
    }

pub returns-clause-key_size : goal.returns-clause-key_size
returns-clause-key_size c =
    let e = long (goal.at.returns-clause-key_size c).After-exact_keys-layout in
    let bits : c.exact_keys-layout.result.entry - 8 ≡ bits_of_lanes c.args.slot.now.keys = (let same = c.key_bits-bits.ensures ∙ ap bits_of_lanes c.as_slice.ensures in omega (arith, e, same)) in
    c.in_ok-entry.ensures.size ∙ ap (λ b. divided_up b 8) bits

pub returns-clause-held_size : goal.returns-clause-held_size
returns-clause-held_size c = ap (λ (bs : List ℕ). length bs) c.in_ok-held.ensures ∙ length-bytes_of (divided_up c.args.slot.now.held 8) _
