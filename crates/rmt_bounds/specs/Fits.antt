-- How large the numbers of a bound are.
use Rattle.std.specs.Prelude.{ℕ, ◌+◌, ◌*◌, ◌≤◌, List, slice_index}
use Rattle.rmt_ast.specs.declared.deps.Edge.{Edge}
use Rattle.rmt_ast.specs.declared.program.Program.{Program}
use Rattle.rmt_ast.specs.WellFormed.{IsProgram}
use Rattle.rmt_pack.specs.declared.format.Format.{Format}
use Rattle.rmt_bounds.specs.Bounds.{EdgesRise}

-- a quantum has some SRAM blocks, and stands in a stage; there are at most 512 quanta
pub record FitsAStage (f : Format) : Type 0 where
  pub sram : (1 ≤ f.sram) × (f.sram ≤ 106)
  pub tcam : f.tcam ≤ 16
  pub quanta : (1 ≤ f.quanta) × (f.quanta ≤ 512)

-- the best of each node is at most 512 for each node up to it
abbrev pub AreSmall : List ℕ → Type 0
AreSmall bests = (n : ℕ) → slice_index bests n ≤ 512 * (n + 1)

-- the nodes of a program, edges between them that rise, and small bests
pub record HasBests (p : Program) (edges : List Edge) (bests : List ℕ) : Type 0 where
  pub program : IsProgram p
  pub rise : EdgesRise p edges
  pub small : AreSmall bests
