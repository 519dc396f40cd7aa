-- Sets of the actions that assign a field.
use Rattle.std.specs.Prelude.{◌≡◌, ℕ, ◌<◌, List, Bool, false, length, slice_get, slice_index_or, option_map, unwrap_or}
use Rattle.rmt_ast.specs.declared.program.Program.{Program}
use Rattle.rmt_ast.specs.declared.program.Action.{Action}
use Rattle.rmt_phv.specs.Packing.{writes}
use Rattle.rmt_phv.specs.Sets.{has}

-- action n of a program assigns field f
abbrev pub assigns : Program → ℕ → ℕ → Bool
assigns p n f = unwrap_or (option_map (λ (a : Action). writes a f) (slice_get p.actions n)) false

-- the set of the actions that assign field f
abbrev pub IsWriters : Program → ℕ → List ℕ → Type 0
IsWriters p f set = (n : ℕ) → has set n ≡ assigns p n f

-- a set for each field
pub record AreWriters (p : Program) (sets : List (List ℕ)) : Type 0 where
  pub all_there : length sets ≡ length p.fields
  pub each : (f : ℕ) (d : List ℕ) → f < length sets → IsWriters p f (slice_index_or sets f d)
