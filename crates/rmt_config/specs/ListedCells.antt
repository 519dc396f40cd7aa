-- The cells that a slot lists, and the layout of their entries.
use Rattle.std.specs.Prelude.{IsTrue}
use Rattle.rmt_config.specs.declared.form.set_bits.Listed.{Listed}
use Rattle.rmt_config.specs.Layouts.{IsLayout, listed_cells}
use Rattle.rmt_config.specs.Order.{rises_from}

-- the layout is one that a memory may have, and the cells rise
pub record CellsRise (l : Listed) : Type 0 where
  pub layout : IsLayout l.layout
  pub rise : IsTrue (rises_from 0 (listed_cells l.numbers.now))
