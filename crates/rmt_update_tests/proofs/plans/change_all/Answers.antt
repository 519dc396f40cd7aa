use Rattle.rmt_update_tests.proofs.plans.change_all.Goals as goal

pub change-requires : goal.change-requires
change-requires c = let book = c.requires in (book.0, c.loop-line.invariant book.0 book.1)
