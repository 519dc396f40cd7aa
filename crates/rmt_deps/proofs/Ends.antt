-- Edges by the node in which they end, one edge after another.
use Rattle.std.proofs.Common.{◌≡◌, ℕ, ◌+◌, ◌<◌, List, ◌++◌, length, take, drop, eqb, sym, ap, ◌∙◌}
use Rattle.std.specs.Prelude.{All, filter}
use Rattle.std.proofs.Math.Seq.{take-append_seam}
use Rattle.rmt_ast.specs.declared.deps.Edge.{Edge}
use Rattle.rmt_deps.specs.Edges.{GoesForward}

-- a vector whose items were all written
pub written : {X : Type 0} (n : ℕ) (items new : List X) → length new ≡ n → take n (new ++ drop (length new) items) ≡ new
written n items new e = ap (λ k. take k (new ++ drop (length new) items)) (sym e) ∙ take-append_seam new (drop (length new) items)

-- the edges that end in a node
abbrev pub ending : ℕ → List Edge → List Edge
ending n edges = filter (λ (e : Edge). eqb e.to n) edges

-- edges that go forward end below the number of nodes
pub ends_below : (nodes : ℕ) (edges : List Edge) → All (GoesForward nodes) edges → All (λ (e : Edge). e.to < nodes) edges
ends_below nodes edges all k d lt = (all k d lt).is_node
