use Rattle.std.proofs.Common.{ℕ, ◌<◌}
use Rattle.std.specs.Prelude.{IsSomeAnd, slice_get}
use Rattle.std.specs.List.{AllZip}
use Rattle.rmt_refine.specs.Types.{Stage}
use Rattle.rmt_refine.specs.Units.{UnitCarried, nodes_in}
use Rattle.rmt_verify.proofs.units.stage.all_stages.Given as goal

-- each stage so far
abbrev pub invariant-loop-k : goal.invariant-loop-k
invariant-loop-k l =
    (j : ℕ) → j < l.k → IsSomeAnd (slice_get l.stages j) (λ (s : Stage). AllZip (UnitCarried l.placed.program.now l.placed.places.now l.placed.parts.now j) (nodes_in l.placed.program.now l.placed.parts.now j) s.units)
