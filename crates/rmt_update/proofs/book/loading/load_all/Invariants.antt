use Rattle.rmt_update.specs.Loads.{AreStuck}
use Rattle.rmt_update.proofs.book.loading.load_all.Given as goal

-- under each seed so far some table is stuck
abbrev pub invariant-loop-seed : goal.invariant-loop-seed
invariant-loop-seed l = AreStuck l.tables l.entries l.seed
