-- The entries of a layout in SRAM.
use Rattle.std.specs.Prelude.{◌≡◌, ◌<◌, ℕ, ◌*◌, length}
use Rattle.rmt_config.specs.Cells.{sram_row}
use Rattle.rmt_config.specs.Layouts.{IsInSram, entry_in, local_of, quantum_of}
use Rattle.rmt_config.specs.MemoryRules.{SramRows}
use Rattle.rmt_book.specs.declared.entry.EntryAt.{EntryAt}

-- an entry stands there: the blocks are those of the layout, which has the cell
pub record IsThere (e : EntryAt) : Type 0 where
  pub rows : SramRows e.rows.now
  pub layout : IsInSram e.layout.now
  pub blocks : length e.blocks.now ≡ e.layout.now.quanta * e.layout.now.units * e.layout.now.side
  pub cell : e.cell < e.layout.now.ways * e.layout.now.quanta * e.layout.now.way

-- as a number
abbrev pub entry_at : EntryAt → ℕ
entry_at e = entry_in e.layout.now (sram_row e.rows.now) e.blocks.now (quantum_of e.layout.now e.cell) (local_of e.layout.now e.cell)
