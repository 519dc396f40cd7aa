use Rattle.std.proofs.Common.{◌≡◌, ℕ}
use Rattle.std.specs.Borrow.{Bor}
use Rattle.std.specs.Prelude.{All}
use Rattle.rmt_update.specs.Differences.{AreMore, AreSome, Goal, IsGoal, changes_in, write_at}
use Rattle.rmt_update.proofs.book.differences.put_changes.Given as goal

-- the changes of the cells so far are put
abbrev pub invariant-loop-cell : goal.invariant-loop-cell
invariant-loop-cell l =
    (goal : Goal) → IsGoal goal (l.old, l.new) → AreSome (changes_in l.fn.changes.items) goal
    → AreMore (changes_in l.fn.changes.items) (changes_in l.changes.items) goal × All (λ (k : Bor ℕ). write_at (changes_in l.changes.items) ((l.new.stage, l.new.place), k.now) ≡ goal ((l.new.stage, l.new.place), k.now)) l.yielded
