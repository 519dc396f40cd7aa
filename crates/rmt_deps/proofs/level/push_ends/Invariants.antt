use Rattle.std.proofs.Common.{◌≡◌, ◌<◌, ◌++◌, ℕ, List, eqb, length, get_or, take}
use Rattle.std.specs.Prelude.{filter}
use Rattle.rmt_ast.specs.declared.deps.Edge.{Edge}
use Rattle.rmt_deps.proofs.level.push_ends.Given as goal

-- the edges so far stand behind the others
abbrev pub invariant-loop-edge : goal.invariant-loop-edge
invariant-loop-edge l = record {
  all_there : length l.ends ≡ length l.initial.ends;
  each : (n : ℕ) (d : List Edge) → n < length l.initial.ends
      → get_or l.ends n d ≡ get_or l.initial.ends n d ++ filter (λ (e : Edge). eqb e.to n) (take l.edge-index l.edges);
}
