use Rattle.rmt_update.specs.declared.book.Book.{Book}
use Rattle.rmt_update_tests.specs.Planning.{AreReady}
use Rattle.rmt_update_tests.proofs.plans.change_all.Given as goal

-- the lists stand for the runs of the books for whose runs they stood
abbrev pub invariant-loop-line : goal.invariant-loop-line
invariant-loop-line l = (b : Book) → AreReady l.fn.lists b → AreReady l.lists b
