-- Marks of bytes that are added to others.
use Rattle.std.specs.Prelude.{ℕ, List, ◌++◌, Bool}
use Rattle.rmt_config.specs.LimitSteps.{Marks}

-- the words of a list are marked too
pub record MarksAlso (words : List ℕ) (old new : List Bool) : Type 0 where
  pub also : (ns : List ℕ) → Marks ns old → Marks (ns ++ words) new
