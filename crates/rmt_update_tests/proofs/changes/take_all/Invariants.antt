use Rattle.rmt_lists.specs.Running.{Running}
use Rattle.rmt_lists.specs.Stands.{Stands}
use Rattle.rmt_update_tests.proofs.changes.take_all.Given as goal

-- the lists stand for some run
abbrev pub invariant-loop-line : goal.invariant-loop-line
invariant-loop-line l = (r : Running) × Stands r l.lists
