-- The rows of TCAM that the keys of a prefix table are read from.
use Rattle.std.specs.Prelude.{◌≡◌, ◌<◌, ◌≤◌, List, map, true, All}
use Rattle.rmt_config.specs.Types.{TcamRow}
use Rattle.rmt_config.specs.Order.{rises_from}
use Rattle.rmt_config.specs.StageForm.{trow_number}

-- rows in rising order, each within its block, of which no value is above its mask
pub record PrefixRows (rows : List TcamRow) : Type 0 where
  pub rise : rises_from 0 (map trow_number rows) ≡ true
  pub low : All (λ (r : TcamRow). r.row < 2048) rows
  pub within : All (λ (r : TcamRow). r.value ≤ r.mask) rows
