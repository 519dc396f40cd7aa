use Rattle.std.proofs.Common.{◌≡◌, ◌*◌, ◌/◌, ◌^◌, ◌≤◌, length}
use Rattle.rmt_bits.specs.Bits.{slice, number_of}
use Rattle.rmt_bits.proofs.ByteLaws.{AreBytes}
use Rattle.rmt_config.specs.Cells.{unit_row}
use Rattle.rmt_config.specs.BlockCounts.{divided_up}
use Rattle.rmt_pack.specs.Rows.{blocks_of}
use Rattle.rmt_pack.proofs.run.read_run.Given as goal

abbrev pub invariant-loop-left : goal.invariant-loop-left
invariant-loop-left l =
    (l.left ≤ l.len) × (length l.bytes ≡ divided_up l.len 8)
    × (number_of l.bytes ≡ slice (unit_row 112 (blocks_of l.rows) l.row l.blocks) l.low l.len / 2 ^ l.left * 2 ^ l.left)
    × AreBytes l.bytes

abbrev pub decreases-loop-left : goal.decreases-loop-left
decreases-loop-left l = l.left
