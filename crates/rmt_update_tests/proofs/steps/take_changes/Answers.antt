use Rattle.rmt_update_tests.proofs.steps.take_changes.Goals as goal

pub change-requires : goal.change-requires
change-requires c = let book = c.requires in (book.0, c.loop-place.invariant book.0 book.1)
