use Rattle.std.proofs.Common.{◌≤◌, drop, length}
use Rattle.std.specs.Prelude.{sum}
use Rattle.rmt_config.specs.Rooms.{side_by_side}
use Rattle.rmt_pack.specs.Tcam.{Holds}
use Rattle.rmt_pack.proofs.tcam.side_words.Given as goal

-- the numbers from this place on are gathered
abbrev pub invariant-loop-at : goal.invariant-loop-at
invariant-loop-at l = record {
  within : l.at ≤ length l.widths;
  holds : Holds l.gathered (side_by_side (drop l.at l.widths) (drop l.at l.values)) (sum (drop l.at l.widths));
}

abbrev pub decreases-loop-at : goal.decreases-loop-at
decreases-loop-at l = l.at
