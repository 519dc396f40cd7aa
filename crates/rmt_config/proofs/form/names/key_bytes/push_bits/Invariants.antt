use Rattle.std.proofs.Common.{◌≡◌, ◌-◌, ◌*◌, ◌/◌, ◌^◌, ◌≤◌, ◌++◌}
use Rattle.rmt_bits.specs.Bits.{slice, bytes_of}
use Rattle.rmt_config.specs.Cells.{sram_row, unit_row}
use Rattle.rmt_config.specs.BlockCounts.{divided_up}
use Rattle.rmt_config.proofs.form.names.key_bytes.push_bits.Given as goal

abbrev pub invariant-loop-left : goal.invariant-loop-left
invariant-loop-left l = record {
  within : l.left ≤ divided_up l.len 8;
  added : l.into.items ≡ l.fn.into.items ++ bytes_of (divided_up l.len 8 - l.left) (slice (unit_row 112 (sram_row l.unit.rows.now) l.unit.row l.unit.blocks.now) l.low l.len / 2 ^ (8 * l.left));
}

abbrev pub decreases-loop-left : goal.decreases-loop-left
decreases-loop-left l = l.left
