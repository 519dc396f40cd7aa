use Rattle.std.proofs.Common.{◌≡◌, ◌≤◌, length, drop}
use Rattle.rmt_config.specs.Types.{TcamRow}
use Rattle.rmt_config.specs.Cells.{tcam_row, unit_row}
use Rattle.rmt_config.proofs.form.names.prefix_row.unit_held.Given as goal

abbrev pub invariant-loop-left : goal.invariant-loop-left
invariant-loop-left l = record {
  within : l.left ≤ length l.blocks;
  key : l.key ≡ unit_row 40 (tcam_row (λ (t : TcamRow). t.value) l.rows) l.row (drop l.left l.blocks);
  mask : l.mask ≡ unit_row 40 (tcam_row (λ (t : TcamRow). t.mask) l.rows) l.row (drop l.left l.blocks);
}

abbrev pub decreases-loop-left : goal.decreases-loop-left
decreases-loop-left l = l.left
