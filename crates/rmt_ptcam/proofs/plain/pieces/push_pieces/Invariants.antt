use Rattle.std.proofs.Common.{◌+◌, ◌≤◌, length}
use Rattle.rmt_config.specs.LaneForm.{bits_of_lanes}
use Rattle.rmt_ptcam.proofs.PlainLaws.{ArePushed}
use Rattle.rmt_ptcam.proofs.plain.pieces.push_pieces.Given as goal

-- the pieces that are left stand behind those so far
abbrev pub invariant-loop-left : goal.invariant-loop-left
invariant-loop-left l = record {
  within : l.left ≤ length l.lanes;
  pushed : ArePushed l.lanes l.left l.extracts l.initial.extracts l.next l.from (l.from + bits_of_lanes l.lanes);
}

abbrev pub decreases-loop-left : goal.decreases-loop-left
decreases-loop-left l = l.left
