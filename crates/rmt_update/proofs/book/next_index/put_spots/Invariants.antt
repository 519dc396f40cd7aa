use Rattle.std.proofs.Common.{◌≡◌, ℕ, take}
use Rattle.std.specs.BTreeMap.{get}
use Rattle.std.specs.Ordering.{nat_cmp}
use Rattle.rmt_update.specs.NextIndex.{spot_behind}
use Rattle.rmt_update.proofs.book.next_index.put_spots.Given as goal

-- the cells so far
abbrev pub invariant-loop-coming : goal.invariant-loop-coming
invariant-loop-coming l = (n : ℕ) → get nat_cmp l.spots n ≡ spot_behind (take l.coming-index l.come) n (get nat_cmp l.fn.spots n)
