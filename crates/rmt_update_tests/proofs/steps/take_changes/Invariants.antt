use Rattle.rmt_update.specs.declared.book.Book.{Book}
use Rattle.rmt_update_tests.specs.Planning.{AreReady}
use Rattle.rmt_update_tests.proofs.steps.take_changes.Given as goal

-- the lists stand for the runs of the books for whose runs they stood
abbrev pub invariant-loop-place : goal.invariant-loop-place
invariant-loop-place l = (b : Book) → AreReady l.fn.lists b → AreReady l.lists b
