use Rattle.rmt_build.proofs.TriedLaws.{LoadedUpto}
use Rattle.rmt_build.proofs.loading.try_seed.Given as goal

abbrev pub invariant-loop-node : goal.invariant-loop-node
invariant-loop-node l = LoadedUpto l.placed.program.now l.placed.entries.now l.placed.parts.now l.seed l.node l.stands
