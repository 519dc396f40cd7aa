use Rattle.rmt_update_tests.proofs.steps.agreed.Goals as goal

-- the book stands for the cells and the entries of the run
pub entries-requires : goal.entries-requires
entries-requires c = let ready = c.requires in (ready.config, ready.cells, ready.before.lists, ready.book_is)
