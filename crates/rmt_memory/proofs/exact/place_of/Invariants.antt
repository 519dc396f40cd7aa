use Rattle.std.proofs.Common.{ℕ, ◌<◌, None}
use Rattle.rmt_memory.specs.Searching.{FirstInWay}
use Rattle.rmt_memory.proofs.exact.place_of.Given as goal

abbrev pub invariant-loop-way : goal.invariant-loop-way
invariant-loop-way l = (w : ℕ) → w < l.way → FirstInWay l.ways l.cells l.seed l.sight l.key w None
