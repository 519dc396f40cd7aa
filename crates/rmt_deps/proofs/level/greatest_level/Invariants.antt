use Rattle.std.proofs.Common.{◌≡◌, ◌≤◌, length, take}
use Rattle.rmt_deps.specs.Levels.{greatest_behind}
use Rattle.rmt_deps.proofs.level.greatest_level.Given as goal

-- the greatest level behind the edges so far
abbrev pub invariant-loop-edge : goal.invariant-loop-edge
invariant-loop-edge l = record {
  greatest : l.most ≡ greatest_behind l.levels (take l.edge-index l.edges);
  small : l.most ≤ length l.levels;
}
