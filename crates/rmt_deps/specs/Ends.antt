-- The edges of a program, by the node in which they end.
use Rattle.std.specs.Prelude.{◌≡◌, ℕ, ◌<◌, ◌≤◌, ◌==◌, List, filter, length, slice_index, slice_index_or}
use Rattle.rmt_ast.specs.declared.deps.Edge.{Edge}

-- of each of so many nodes, the edges that end in it
pub record AreEnds (nodes : ℕ) (edges : List Edge) (ends : List (List Edge)) : Type 0 where
  pub all_there : length ends ≡ nodes
  pub each : (n : ℕ) (d : List Edge) → n < nodes → slice_index_or ends n d ≡ filter (λ (e : Edge). e.to == n) edges

-- no level is greater than the node's number
pub record AreSmall (levels : List ℕ) : Type 0 where
  pub each : (n : ℕ) → n < length levels → slice_index levels n ≤ n
