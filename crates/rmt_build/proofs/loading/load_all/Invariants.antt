use Rattle.rmt_build.specs.Loads.{AreFullBefore}
use Rattle.rmt_build.proofs.loading.load_all.Given as goal

-- under each seed so far some table is full
abbrev pub invariant-loop-seed : goal.invariant-loop-seed
invariant-loop-seed l = AreFullBefore l.placed.program.now l.placed.entries.now l.placed.parts.now l.seed
