use Rattle.rmt_update.specs.Loads.{StandUpto}
use Rattle.rmt_update.proofs.book.loading.try_seed.Given as goal

-- the entries of the nodes so far stand
abbrev pub invariant-loop-node : goal.invariant-loop-node
invariant-loop-node l = StandUpto l.tables l.entries l.seed l.node l.spots
