-- What the first three parts of the check tell the later ones.
use Rattle.rmt_config.specs.Agreement.{AgreesWith}
use Rattle.rmt_refine.specs.Types.{Program, Config}
use Rattle.rmt_refine.specs.Places.{PlacesCarried}
use Rattle.rmt_refine.specs.Units.{UnitsCarried}
use Rattle.rmt_verify.specs.ParserMade.{IsMadeOf}
use Rattle.rmt_verify.specs.Types.{MapFile}

-- the first three parts hold, so each frame is parsed as the program asks
pub record FirstHold (p : Program) (c : Config) (m : MapFile) : Type 0 where
  pub places : PlacesCarried p m.map.places c
  pub parser : IsMadeOf p m.map.places m.joins c.parser
  pub agrees : AgreesWith c.parser m.map.places p
  pub units : UnitsCarried p m.map.places m.map.placement.parts m.map.starts c
