-- Entries that begin with a head, in blocks whose rows keep the rules.
use Rattle.std.specs.Prelude.{◌≡◌, ◌*◌, length}
use Rattle.rmt_config.specs.declared.form.cells.Entries.{Entries}
use Rattle.rmt_config.specs.Layouts.{HasHeads}
use Rattle.rmt_config.specs.MemoryRules.{SramRows}

-- their layout has room for heads, and there are all of its blocks
pub record EntriesStand (e : Entries) : Type 0 where
  pub heads : HasHeads e.layout
  pub blocks : length e.blocks.now ≡ e.layout.quanta * e.layout.units * e.layout.side
  pub rows : SramRows e.rows.now
