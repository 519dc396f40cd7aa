use Rattle.std.proofs.Common.{◌≡◌, ℕ, List, [], rules, ◌*◌, ◌<◌, length, sym, ap, ◌∙◌, subst, arith}
use Rattle.std.specs.Prelude.{IfOk}
use Rattle.rmt_bits.specs.Bits.{bytes_of}
use Rattle.rmt_config.specs.declared.form.layout.CellLayout.{CellLayout}
use Rattle.rmt_config.specs.BlockCounts.{divided_up}
use Rattle.rmt_config.specs.Cells.{sram_row, cell_of, data_at}
use Rattle.rmt_config.specs.Layouts.{IsInSram, entry_in, exact_records, local_of, quantum_of}
use Rattle.rmt_config.proofs.CellLayouts.{exact-data}
use Rattle.rmt_book.proofs.cells.exact_held.Goals as goal
use Rattle.rmt_config.proofs.LayoutLaws.{at_layout, records_in}

pub returns-then-held-eq0 : goal.returns-then-held-eq0
returns-then-held-eq0 c =
    let none : c.new.result.items ≡ [] = search rules in
    none ∙ sym (ap (λ h. bytes_of (divided_up h 8) (data_at (sram_row c.args.rows.now) c.args.records.now c.args.per c.args.held (cell_of (1024 * c.args.quanta) c.args.per c.args.cell))) c.if-held-eq0.true)

pub entry_bytes-requires : goal.entry_bytes-requires
entry_bytes-requires c =
    let own = exact_records c.args.per c.args.quanta c.args.held in
    record {
      rows = c.requires.rows;
      layout = at_layout IsInSram c.exact_records-layout.result own c.exact_records-layout.ensures (records_in c.args.per c.args.quanta c.args.held c.requires.per (omega arith) c.requires.quanta c.requires.few (omega arith) (omega arith));
      blocks = at_layout (λ l. length c.args.records.now ≡ l.quanta * l.units * l.side) c.exact_records-layout.result own c.exact_records-layout.ensures (let h = c.requires.records in omega (arith, h));
      cell = at_layout (λ l. c.args.cell < l.ways * l.quanta * l.way) c.exact_records-layout.result own c.exact_records-layout.ensures (let h = c.requires.cell in omega (arith, h));
    }

pub returns : goal.returns
returns c =
    let held = c.args.held in
    let sram = sram_row c.args.rows.now in
    let records = c.args.records.now in
    let n = c.args.cell in
    let told : bytes_of (divided_up c.exact_records-layout.result.entry 8) (entry_in c.exact_records-layout.result sram records (quantum_of c.exact_records-layout.result n) (local_of c.exact_records-layout.result n))
    ≡ bytes_of (divided_up held 8) (data_at sram records c.args.per held (cell_of (1024 * c.args.quanta) c.args.per n)) =
    ap (λ (l : CellLayout). bytes_of (divided_up l.entry 8) (entry_in l sram records (quantum_of l n) (local_of l n))) c.exact_records-layout.ensures
    ∙ ap (bytes_of (divided_up held 8)) (sym (exact-data sram records c.args.per c.args.quanta held n c.requires.per c.requires.quanta)) in
    subst (λ (bs : List ℕ). IfOk c.entry_bytes.result (λ bytes. bytes.items ≡ bs)) told c.entry_bytes.ensures
