use Rattle.std.proofs.Common.{◌≡◌, ◌+◌, ◌*◌, ◌≤◌, length}
use Rattle.rmt_entries.specs.KeySets.{apart, near, spot_of}
use Rattle.rmt_entries.proofs.key_set.spot_from.Given as goal

-- the places before are others' ones
abbrev pub invariant-loop-left : goal.invariant-loop-left
invariant-loop-left l = record {
  same : spot_of l.slots l.held near l.home l.key ≡ spot_of l.slots l.held l.left l.place l.key;
  room : l.place + l.left * apart ≤ length l.slots;
}

abbrev pub decreases-loop-left : goal.decreases-loop-left
decreases-loop-left l = l.left
