use Rattle.rmt_update_tests.specs.Planning.{AreReady}
use Rattle.rmt_update_tests.proofs.plans.take_all.Given as goal

-- the lists and the book stand for one run
abbrev pub invariant-loop-line : goal.invariant-loop-line
invariant-loop-line l = AreReady l.lists l.book
