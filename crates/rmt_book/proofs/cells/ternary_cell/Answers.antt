use Rattle.std.proofs.Common.{◌≡◌, ℕ, List, ◌+◌, ◌-◌, ◌*◌, ◌/◌, ◌%◌, ◌^◌, ◌<◌, ◌≤◌, length, refl, sym, ap, ◌∙◌, subst, arith}
use Rattle.std.specs.Prelude.{All}
use Rattle.rmt_config.specs.declared.form.layout.CellLayout.{CellLayout}
use Rattle.rmt_config.specs.declared.config.SramRow.{SramRow}
use Rattle.rmt_config.specs.declared.config.TcamRow.{TcamRow}
use Rattle.rmt_config.specs.LaneForm.{bits_of_lanes}
use Rattle.rmt_config.specs.BlockCounts.{divided_up}
use Rattle.rmt_config.specs.Cells.{blocks_at, row_record, sram_row, tcam_row, unit_row}
use Rattle.rmt_config.specs.Layouts.{IsInSram, entry_in, local_of, quantum_of, ternary_records}
use Rattle.rmt_config.specs.MemoryRules.{SramRows}
use Rattle.rmt_config.specs.PrefixRow.{PrefixRows}
use Rattle.rmt_config.proofs.CellLaws.{blocks-there}
use Rattle.rmt_config.proofs.CellLayouts.{ternary-record}
use Rattle.rmt_book.proofs.cells.ternary_cell.Goals as goal
use Rattle.rmt_book.proofs.cells.ternary_cell.Goals.{After-ternary_records-layout}
use Rattle.rmt_config.proofs.LayoutLaws.{at_layout, rows_in}

pub headed_entry-requires-clause-there : goal.headed_entry-requires-clause-there
headed_entry-requires-clause-there c =
    let r = c.requires.rows in
    let f = c.requires.fits in
    let held = c.args.own.now.slot.now.held in
    let own = ternary_records c.args.own.now.quanta (held + 8) in
    record {
      rows = subst SramRows (sym c.as_slice-rows.ensures) (record { rise = r.srise; low = r.slow; small = r.sbits });
      layout = at_layout IsInSram c.ternary_records-layout.result own c.ternary_records-layout.ensures (rows_in c.args.own.now.quanta (held + 8) f.some_d f.most_d (omega arith) (let h = f.most_held in omega (arith, h)));
      blocks = at_layout (λ l. length c.args.own.now.records.now ≡ l.quanta * l.units * l.side) c.ternary_records-layout.result own c.ternary_records-layout.ensures (let h = f.records in omega (arith, h));
      cell = at_layout (λ l. c.args.own.now.number.cell < l.ways * l.quanta * l.way) c.ternary_records-layout.result own c.ternary_records-layout.ensures (let h = c.requires.cell in omega (arith, h));
    }

-- an entry has the data above its head
long : (c : After-ternary_records-layout) → c.ternary_records-layout.result.entry ≡ c.args.own.now.slot.now.held + 8
long c = ap (λ (l : CellLayout). l.entry) c.ternary_records-layout.ensures

pub headed_entry-requires-clause-head : goal.headed_entry-requires-clause-head
headed_entry-requires-clause-head c = let e = long (goal.at.headed_entry-requires-clause-head c).After-ternary_records-layout in omega (arith, e)

pub headed_entry-requires-clause-few : goal.headed_entry-requires-clause-few
headed_entry-requires-clause-few c =
    let e = long (goal.at.headed_entry-requires-clause-few c).After-ternary_records-layout in let few = c.requires.fits.most_held in omega (arith, e, few)

pub ternary_key-requires-clause-rows : goal.ternary_key-requires-clause-rows
ternary_key-requires-clause-rows c = subst PrefixRows (sym c.as_slice-trows.ensures) c.requires.values

pub ternary_key-requires-clause-small : goal.ternary_key-requires-clause-small
ternary_key-requires-clause-small c = subst (λ (rs : List TcamRow). All (λ (r : TcamRow). r.mask < 2 ^ 40) rs) (sym c.as_slice-trows.ensures) c.requires.rows.tbits

pub ternary_key-requires-clause-blocks : goal.ternary_key-requires-clause-blocks
ternary_key-requires-clause-blocks c =
    let bits = bits_of_lanes c.args.own.now.slot.now.keys in
    let same : c.key_bits-bits.result ≡ bits = c.key_bits-bits.ensures ∙ ap bits_of_lanes c.as_slice.ensures in
    subst (λ b. (c.args.own.now.number.cell / 2048 + 1) * divided_up b 40 ≤ length c.args.own.now.keys.now) (sym same)
    (blocks-there c.args.own.now.quanta (divided_up bits 40) (length c.args.own.now.keys.now) c.args.own.now.number.cell c.requires.fits.keys c.requires.cell)

pub ternary_key-requires-clause-ends : goal.ternary_key-requires-clause-ends
ternary_key-requires-clause-ends c =
    let bits = bits_of_lanes c.args.own.now.slot.now.keys in
    let n = c.args.own.now.number.cell in
    let same : c.key_bits-bits.result ≡ bits = c.key_bits-bits.ensures ∙ ap bits_of_lanes c.as_slice.ensures in
    subst (λ b. unit_row 40 (tcam_row (λ (t : TcamRow). t.mask) c.as_slice-trows.result.now) (n % 2048) (blocks_at c.args.own.now.keys.now (divided_up b 40) (n / 2048)) < 2 ^ b) (sym same)
    (subst (λ (rs : List TcamRow). unit_row 40 (tcam_row (λ (t : TcamRow). t.mask) rs) (n % 2048) (blocks_at c.args.own.now.keys.now (divided_up bits 40) (n / 2048)) < 2 ^ bits) (sym c.as_slice-trows.ensures) c.requires.ends)

pub returns-clause-kept : goal.returns-clause-kept
returns-clause-kept c = λ cs.
    let slot = c.args.own.now.slot.now in
    let stage = c.args.own.now.stage.now in
    let d = c.args.own.now.quanta in
    let n = c.args.own.now.number.cell in
    let bits = bits_of_lanes slot.keys in
    let records = c.args.own.now.records.now in
    let keys = c.args.own.now.keys.now in
    let same : c.key_bits-bits.result ≡ bits = c.key_bits-bits.ensures ∙ ap bits_of_lanes c.as_slice.ensures in
    let value : entry_in c.ternary_records-layout.result (sram_row c.as_slice-rows.result.now) records (quantum_of c.ternary_records-layout.result n) (local_of c.ternary_records-layout.result n) ≡ row_record (sram_row stage.srows) records slot.held n =
    ap (λ (rs : List SramRow). entry_in c.ternary_records-layout.result (sram_row rs) records (quantum_of c.ternary_records-layout.result n) (local_of c.ternary_records-layout.result n)) c.as_slice-rows.ensures
    ∙ ap (λ (l : CellLayout). entry_in l (sram_row stage.srows) records (quantum_of l n) (local_of l n)) c.ternary_records-layout.ensures
    ∙ sym (ternary-record (sram_row stage.srows) records d slot.held n c.requires.cell) in
    let head = c.in_ok-entry.ensures.head ∙ ap (λ v. v % 256) value in
    let compared = λ (val : TcamRow → ℕ) (x : ℕ) (e : x ≡ unit_row 40 (tcam_row val c.as_slice-trows.result.now) (n % 2048) (blocks_at keys (divided_up c.key_bits-bits.result 40) (n / 2048))).
    e ∙ ap (λ b. unit_row 40 (tcam_row val c.as_slice-trows.result.now) (n % 2048) (blocks_at keys (divided_up b 40) (n / 2048))) same
    ∙ ap (λ (rs : List TcamRow). unit_row 40 (tcam_row val rs) (n % 2048) (blocks_at keys (divided_up bits 40) (n / 2048))) c.as_slice-trows.ensures in
    record {
      cell = refl;
      number = refl;
      visible = ap (λ x. x / 2 % 4) head;
      code = ap (λ x. x / 8) head;
      key = compared (λ t. t.value) _ c.in_ok-compared.ensures.key;
      mask = compared (λ t. t.mask) _ c.in_ok-compared.ensures.mask;
      held = c.in_ok-entry.ensures.rest ∙ ap (λ v. v / 256) value;
    }

pub returns-clause-key_size : goal.returns-clause-key_size
returns-clause-key_size c = c.in_ok-compared.ensures.key_size ∙ ap (λ b. divided_up b 8) (c.key_bits-bits.ensures ∙ ap bits_of_lanes c.as_slice.ensures)

pub returns-clause-mask_size : goal.returns-clause-mask_size
returns-clause-mask_size c = c.in_ok-compared.ensures.mask_size ∙ ap (λ b. divided_up b 8) (c.key_bits-bits.ensures ∙ ap bits_of_lanes c.as_slice.ensures)

pub returns-clause-held_size : goal.returns-clause-held_size
returns-clause-held_size c =
    let e = long (goal.at.returns-clause-held_size c).After-ternary_records-layout in
    let held : c.ternary_records-layout.result.entry - 8 ≡ c.args.own.now.slot.now.held = omega (arith, e) in
    c.in_ok-entry.ensures.size ∙ ap (λ b. divided_up b 8) held
