-- What a proof of a bound gives.
use Rattle.std.specs.Prelude.{◌≡◌, ◌<◌, ℕ, ◌+◌, ◌-◌, List, [], ◌∷◌, Bool, ◌==◌, ◌&&◌, if◌then◌else◌, ⊤, IsTrue, length}
use Rattle.std.specs.List.{list_any}
use Rattle.rmt_ast.specs.declared.deps.Edge.{Edge}
use Rattle.rmt_ast.specs.declared.program.Program.{Program}
use Rattle.rmt_pack.specs.Formats.{divided_up}
use Rattle.rmt_pack.specs.Placements.{is_strict}
use Rattle.rmt_bounds.specs.declared.bound.Proof.{Proof}
use Rattle.rmt_bounds.specs.declared.bound.Proof.TheVariants.{Chain, Sram, Tcam, Slots}
use Rattle.rmt_bounds.specs.Bounds.{node_stages, sram_sum, tcam_sum, table_count}

-- an edge joins one node to another
abbrev pub joins : ℕ → ℕ → Edge → Bool
joins a b e = (e.from == a) && (e.to == b)

-- two nodes share a stage at most where only weak edges join them
abbrev pub shared_by : List Edge → ℕ → ℕ → ℕ
shared_by edges a b = if list_any (λ (e : Edge). joins a b e && is_strict e.kind) edges then 0 else 1

-- nodes of a program, each but the last joined to the next by an edge
abbrev pub IsChain : Program → List Edge → List ℕ → Type 0
IsChain p edges [] = ⊤
IsChain p edges (n ∷ []) = n < length p.nodes
IsChain p edges (a ∷ b ∷ ns) = (a < length p.nodes) × IsTrue (list_any (joins a b) edges) × IsChain p edges (b ∷ ns)

-- the stages that a chain takes: those of its nodes, less what each two neighbours may share
abbrev pub chain_stages : Program → List Edge → List ℕ → ℕ
chain_stages p edges [] = 0
chain_stages p edges (n ∷ []) = node_stages p n
chain_stages p edges (a ∷ b ∷ ns) = node_stages p a + chain_stages p edges (b ∷ ns) - shared_by edges a b

-- A proof gives a number of stages.
abbrev pub Gives : Program → List Edge → Proof → ℕ → Type 0
Gives p edges (Chain ns) stages = IsChain p edges ns × (stages ≡ chain_stages p edges ns)
Gives p edges (Sram blocks) stages = (blocks ≡ sram_sum p) × (stages ≡ divided_up blocks 106)
Gives p edges (Tcam blocks) stages = (blocks ≡ tcam_sum p) × (stages ≡ divided_up blocks 16)
Gives p edges (Slots tables) stages = (tables ≡ table_count p) × (stages ≡ divided_up tables 16)
