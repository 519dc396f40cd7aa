use Rattle.std.proofs.Common.{◌≡◌, ℕ, ◌<◌, List, length}
use Rattle.std.specs.BTreeSet.{contains}
use Rattle.std.specs.Ordering.{nat_cmp}
use Rattle.rmt_bits.specs.Members.{is_among}
use Rattle.rmt_update.specs.After.{AreOrders, left_of}
use Rattle.rmt_book.specs.Seen.{HaveNumbers}
use Rattle.rmt_update.proofs.book.after.left_in_all.Given as goal

-- what is left of the lists so far
abbrev pub invariant-loop-list : goal.invariant-loop-list
invariant-loop-list l = record {
  count : length l.orders.items ≡ length l.yielded;
  left : (numbers : List ℕ) → ((n : ℕ) → contains nat_cmp l.gone n ≡ is_among numbers n) → ((n : ℕ) → n < length l.yielded → HaveNumbers (left_of numbers l.yielded n)) → AreOrders (left_of numbers l.yielded) l.orders.items;
}
