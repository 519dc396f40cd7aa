-- The bytes of a map, and the map that they spell.
use Rattle.std.specs.Prelude.{◌≡◌, ℕ, List}
use Rattle.rmt_verify.specs.Types.{MapFile}
use Rattle.rmt_verify.specs.Spelling.{MapFits, spelled_map}

-- these bytes are the spelling of a map whose counts, numbers and lanes fit their places
pub record Spells (bytes : List ℕ) (m : MapFile) : Type 0 where
  pub spelled : bytes ≡ spelled_map m
  pub fits : MapFits m
