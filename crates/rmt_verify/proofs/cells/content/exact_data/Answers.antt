use Rattle.std.proofs.Common.{◌≡◌, ◌+◌, ◌*◌, ◌≤◌, subst, sym, arith}
use Rattle.std.proofs.lemmas.Result.{IfOk-weaker}
use Rattle.rmt_bits.specs.Bits.{number_of, slice}
use Rattle.rmt_config.specs.Cells.{cell_of, data_at, sram_row}
use Rattle.rmt_config.specs.Layouts.{entry_in, local_of, quantum_of}
use Rattle.rmt_config.specs.declared.form.layout.CellLayout.{CellLayout}
use Rattle.rmt_verify.proofs.ContentLaws.{data_cell, data_is}
use Rattle.rmt_verify.proofs.cells.content.exact_data.Goals as goal

pub data_bytes-requires-clause-cell : goal.data_bytes-requires-clause-cell
data_bytes-requires-clause-cell c =
    let memory = c.args.memory.now in
    data_cell memory.per memory.quanta c.args.held memory.records.now c.args.rows.now c.exact_records-layout.result c.args.cell c.requires.per (omega arith) c.requires.quanta c.requires.few (omega arith) (omega arith)
    c.requires.records c.requires.rows c.exact_records-layout.ensures c.requires.cell

pub data_bytes-requires-clause-bits : goal.data_bytes-requires-clause-bits
data_bytes-requires-clause-bits c = subst (λ (l : CellLayout). 0 + c.args.held ≤ l.entry) (sym c.exact_records-layout.ensures) (omega arith)

pub returns-clause-number : goal.returns-clause-number
returns-clause-number c =
    let memory = c.args.memory.now in
    let l : CellLayout = c.exact_records-layout.result in
    let sram = sram_row c.args.rows.now in
    IfOk-weaker c.data_bytes.result (λ bytes. number_of bytes.items ≡ slice (entry_in l sram memory.records.now (quantum_of l c.args.cell) (local_of l c.args.cell)) 0 c.args.held)
    (λ bytes. number_of bytes.items ≡ data_at sram memory.records.now memory.per c.args.held (cell_of (1024 * memory.quanta) memory.per c.args.cell))
    (λ bytes read. data_is sram memory.records.now memory.per memory.quanta c.args.held c.args.cell (number_of bytes.items) l c.requires.per c.requires.quanta c.exact_records-layout.ensures read) c.data_bytes.ensures.number
