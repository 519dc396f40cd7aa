use Rattle.std.proofs.Common.{◌*◌, sym, ◌∙◌, arith}
use Rattle.rmt_bits.specs.Bits.{slice}
use Rattle.rmt_config.specs.Cells.{sram_row, unit_row, blocks_at}
use Rattle.rmt_config.specs.declared.form.layout.CellLayout.{CellLayout}
use Rattle.rmt_config.specs.Layouts.{HasHeads, IsInSram, quantum_of, local_of, unit_of, row_of, position_of}
use Rattle.rmt_config.proofs.HeadBits.{slice-head}
use Rattle.rmt_config.proofs.SpelledBytes.{spot-low, spot-read, spot-row, spot-unit}
use Rattle.rmt_config.proofs.form.cells.head_of.Goals as goal

in_sram : (l : CellLayout) → HasHeads l → IsInSram l
in_sram l h = record { is = h.is; in_sram = h.in_sram; in_blocks = h.in_blocks }

pub spot_of-spot-requires-clause-layout : goal.spot_of-spot-requires-clause-layout
spot_of-spot-requires-clause-layout c = in_sram c.args.entries.now.layout c.requires.entries.heads

pub head_at-requires-clause-unit : goal.head_at-requires-clause-unit
head_at-requires-clause-unit c =
    spot-unit c.args.entries.now.layout c.args.cell _ _ c.requires.entries.heads.is c.requires.cell c.requires.entries.blocks c.spot_of-spot.ensures.unit

pub head_at-requires-clause-bit : goal.head_at-requires-clause-bit
head_at-requires-clause-bit c =
    let l = c.args.entries.now.layout in
    omega (arith, spot-low l c.args.cell _ (in_sram l c.requires.entries.heads) c.spot_of-spot.ensures.low, c.requires.entries.heads.head)

pub head_at-requires-clause-row : goal.head_at-requires-clause-row
head_at-requires-clause-row c =
    let l = c.args.entries.now.layout in
    spot-row l c.args.cell _ (in_sram l c.requires.entries.heads) c.spot_of-spot.ensures.row

pub returns : goal.returns
returns c =
    let e = c.args.entries.now in
    let i = local_of e.layout c.args.cell in
    let x = unit_row e.layout.bits (sram_row e.rows.now) (row_of e.layout i) (blocks_at e.blocks.now e.layout.side (unit_of e.layout (quantum_of e.layout c.args.cell) i)) in
    c.head_at.ensures
    ∙ spot-read e.layout (sram_row e.rows.now) e.blocks.now c.args.cell _ _ _ (λ x low. slice x low 8) c.requires.entries.heads.in_sram c.spot_of-spot.ensures.unit c.spot_of-spot.ensures.row c.spot_of-spot.ensures.low
    ∙ sym (slice-head x (position_of e.layout i * e.layout.entry) e.layout.entry c.requires.entries.heads.head)
