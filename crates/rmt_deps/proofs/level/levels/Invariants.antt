use Rattle.std.proofs.Common.{◌≡◌}
use Rattle.rmt_deps.specs.Levels.{levels_of}
use Rattle.rmt_deps.proofs.level.levels.Given as goal

-- the levels of the nodes so far
abbrev pub invariant-loop-edges : goal.invariant-loop-edges
invariant-loop-edges l = l.levels ≡ levels_of l.deps l.edges-index
