use Rattle.rmt_update_tests.specs.Planning.{AreReady}
use Rattle.rmt_update_tests.proofs.steps.run.Given as goal

-- the lists and the book stand for one run
abbrev pub invariant-loop-at : goal.invariant-loop-at
invariant-loop-at l = AreReady l.lists l.book
