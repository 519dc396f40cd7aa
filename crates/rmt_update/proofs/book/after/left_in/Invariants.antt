use Rattle.std.proofs.Common.{◌≡◌, ℕ, List}
use Rattle.std.specs.BTreeSet.{contains}
use Rattle.std.specs.Ordering.{nat_cmp}
use Rattle.rmt_bits.specs.Members.{is_among}
use Rattle.rmt_update.specs.After.{without_gone}
use Rattle.rmt_book.specs.Numbered.{IsOrder}
use Rattle.rmt_book.specs.Seen.{HaveNumbers}
use Rattle.rmt_update.proofs.book.after.left_in.Given as goal

-- the entries so far that are left
abbrev pub invariant-loop-entry : goal.invariant-loop-entry
invariant-loop-entry l =
    (numbers : List ℕ) → ((n : ℕ) → contains nat_cmp l.gone n ≡ is_among numbers n) → HaveNumbers (without_gone numbers l.yielded) → IsOrder (without_gone numbers l.yielded) l.ordered
