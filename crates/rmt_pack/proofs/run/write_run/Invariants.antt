use Rattle.std.proofs.Common.{◌+◌, ◌-◌, ◌/◌, ◌^◌, ◌≤◌}
use Rattle.rmt_bits.specs.Bits.{number_of}
use Rattle.rmt_pack.specs.Rows.{blocks_of}
use Rattle.rmt_pack.specs.Cells.{PutsBits}
use Rattle.rmt_pack.proofs.run.write_run.Given as goal

abbrev pub invariant-loop-left : goal.invariant-loop-left
invariant-loop-left l =
    (l.left ≤ l.len)
    × PutsBits (blocks_of l.fn.rows) (blocks_of l.rows) l.row l.blocks (l.low + l.left) (l.len - l.left) (number_of l.bytes / 2 ^ l.left)

abbrev pub decreases-loop-left : goal.decreases-loop-left
decreases-loop-left l = l.left
