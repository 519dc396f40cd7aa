use Rattle.std.proofs.Common.{◌≡◌, ◌≤◌, ℕ, Option, length}
use Rattle.rmt_chip.specs.Types.{Config}
use Rattle.rmt_chip.specs.Held.{Entered}
use Rattle.rmt_chip.specs.Ring.{now, next, AllHold, oldest_below}
use Rattle.rmt_chip.proofs.ring.oldest.Given as goal

abbrev pub invariant-loop-below : goal.invariant-loop-below
invariant-loop-below l = record {
  within : l.below ≤ length l.places;
  younger : (c : Config) (item : ℕ → Option Entered) → AllHold c item now now now next l.newest l.places → oldest_below item l.age ≡ oldest_below item l.below;
}

abbrev pub decreases-loop-below : goal.decreases-loop-below
decreases-loop-below l = l.below
