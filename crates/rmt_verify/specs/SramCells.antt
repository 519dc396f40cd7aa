-- Cells of entries in SRAM.
use Rattle.std.specs.Prelude.{◌≡◌, ◌*◌, ◌<◌, ℕ, List, length}
use Rattle.rmt_config.specs.Cells.{sram_row}
use Rattle.rmt_config.specs.Layouts.{IsInSram, entry_in, local_of, quantum_of}
use Rattle.rmt_config.specs.MemoryRules.{SramRows}
use Rattle.rmt_config.specs.declared.config.SramRow.{SramRow}
use Rattle.rmt_config.specs.declared.form.layout.CellLayout.{CellLayout}

-- a cell of a layout, whose entries stand in these blocks of these rows
pub record IsCellAt (l : CellLayout) (blocks : List ℕ) (rows : List SramRow) (cell : ℕ) : Type 0 where
  pub rows_are : SramRows rows
  pub layout : IsInSram l
  pub blocks_are : length blocks ≡ l.quanta * l.units * l.side
  pub low : cell < l.ways * l.quanta * l.way

-- its entry
abbrev pub entry_of : CellLayout → List ℕ → List SramRow → ℕ → ℕ
entry_of l blocks rows cell = entry_in l (sram_row rows) blocks (quantum_of l cell) (local_of l cell)
