-- Which starts of stages keep the distances that edges ask for.
use Rattle.std.specs.Prelude.{◌≡◌, ◌<◌, ◌≤◌, ℕ, ◌+◌, List, ◌==◌, filter, map, length, slice_index, Contains}
use Rattle.rmt_ast.specs.declared.deps.Edge.{Edge}
use Rattle.rmt_ast.specs.declared.deps.EdgeKind.{EdgeKind}
use Rattle.rmt_ast.specs.declared.deps.EdgeKind.TheVariants as edge
use Rattle.rmt_pack.specs.declared.placement.Part.{Part}

-- how many cycles lie at least between the starts of two stages that an edge joins: a key is read at the start and operands 9 cycles later,
-- and what is written is seen 12 cycles behind the start
abbrev pub distance : EdgeKind → ℕ
distance edge.Match = 12
distance edge.Successor = 1
distance edge.Reverse = 1
distance _ = 3

-- the stages in which a node has a part
abbrev pub stages_of : List Part → ℕ → List ℕ
stages_of parts n = map (λ (x : Part). x.stage) (filter (λ (x : Part). x.node == n) parts)

-- Starts rise from 0, and keep the distance of each edge between every two stages that it joins.
pub record KeepDistances (edges : List Edge) (parts : List Part) (starts : List ℕ) : Type 0 where
  pub first : 1 ≤ length starts → slice_index starts 0 ≡ 0
  pub rise : (j k : ℕ) → j < k → k < length starts → slice_index starts j < slice_index starts k
  pub apart : (e : Edge) (j k : ℕ) → Contains edges e → Contains (stages_of parts e.from) j → Contains (stages_of parts e.to) k → j < k
      → slice_index starts j + distance e.kind ≤ slice_index starts k
