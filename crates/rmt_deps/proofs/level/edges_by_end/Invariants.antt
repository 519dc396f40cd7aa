use Rattle.std.proofs.Common.{◌≡◌, ◌<◌, ℕ, List, [], get_or, length}
use Rattle.rmt_ast.specs.declared.deps.Edge.{Edge}
use Rattle.rmt_deps.proofs.level.edges_by_end.Given as goal

-- the nodes so far have no edge
abbrev pub invariant-loop : goal.invariant-loop
invariant-loop l = record {
  count : length l.ends.items ≡ l.counter;
  none : (n : ℕ) (d : List Edge) → n < length l.ends.items → get_or l.ends.items n d ≡ [];
}
