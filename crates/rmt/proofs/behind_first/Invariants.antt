-- The words so far, and those that are left, are all behind the first.
use Rattle.std.proofs.Common.{◌≡◌, ◌++◌}
use Rattle.std.specs.Vec.Iter.{into_iter_items}
use Rattle.rmt.proofs.behind_first.Given as goal

abbrev pub invariant-loop-word : goal.invariant-loop-word
invariant-loop-word l = l.rest.items ++ into_iter_items l.word-iterator ≡ into_iter_items l.initial.word-iterator
