-- What the rows of a stage hold.
use Rattle.std.specs.Prelude.{◌+◌, ◌*◌, if◌then◌else◌, nat_lt, slice_index}
use Rattle.rmt_config.specs.Cells.{Blocks}
use Rattle.rmt_pack.specs.declared.rows.Rows.{Rows}

-- the row of a block; 0 where there is none
unfoldable pub blocks_of : Rows → Blocks
blocks_of rows block row = if nat_lt row 1024 then slice_index rows.bits.items (block * 1024 + row) else 0
