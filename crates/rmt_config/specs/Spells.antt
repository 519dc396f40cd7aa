-- An image of version 1, 2 or 3, and the configuration that it spells.
use Rattle.std.specs.Prelude.{◌≡◌, ℕ, List}
use Rattle.rmt_config.specs.Types.{Config}
use Rattle.rmt_config.specs.ImageSpelling.{spelled_image}
use Rattle.rmt_config.specs.Form.{Formed}
use Rattle.rmt_config.specs.Limits.{IsWithinLimits}

-- these bytes are the spelling of a configuration that keeps the rules of form and every limit of the chip
pub record Spells (bytes : List ℕ) (c : Config) : Type 0 where
  pub spelled : bytes ≡ spelled_image c
  pub formed : Formed c
  pub limits : IsWithinLimits c
