use Rattle.std.proofs.Common.{◌≡◌, ◌≤◌, ◌++◌, drop, length}
use Rattle.std.specs.Prelude.{reverse}
use Rattle.rmt_build.proofs.lanes.push_reversed.Given as goal

-- the lanes from `left` on stand there, the last one first
abbrev pub invariant-loop-left : goal.invariant-loop-left
invariant-loop-left l = record {
  within : l.left ≤ length l.lanes;
  pushed : l.into ≡ l.initial.into ++ reverse (drop l.left l.lanes);
}

abbrev pub decreases-loop-left : goal.decreases-loop-left
decreases-loop-left l = l.left
