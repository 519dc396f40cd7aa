use Rattle.std.proofs.Common.{◌≡◌, ◌≤◌}
use Rattle.rmt_deps.specs.Levels.{all_edges}
use Rattle.rmt_improve.specs.Steps.{IsRanked, as_try}
use Rattle.rmt_improve.specs.Tries.{best_try}
use Rattle.rmt_improve.proofs.better.best_of_tries.Given as goal

-- the best of the tries so far
abbrev pub invariant-loop-number : goal.invariant-loop-number
invariant-loop-number l = record {
  best : as_try l.best ≡ best_try l.demands l.deps l.number;
  ranked : IsRanked (all_edges l.deps) l.best.outcome;
  some : 1 ≤ l.number;
}
