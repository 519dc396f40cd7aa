use Rattle.std.proofs.Common.{◌≡◌, take}
use Rattle.std.specs.List.{filter_map}
use Rattle.std.specs.BTreeMap.{get}
use Rattle.std.specs.Ordering.{nat_cmp}
use Rattle.rmt_update.proofs.book.next_index.left_spots.Given as goal

-- the cells so far
abbrev pub invariant-loop-number : goal.invariant-loop-number
invariant-loop-number l = l.left.items ≡ filter_map (get nat_cmp l.spots) (take l.number-index l.gone)
