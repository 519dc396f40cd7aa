-- Second part: the parser of a configuration is made by the joins of a map.
use Rattle.std.specs.Prelude.{◌≡◌, List, Some, Ok}
use Rattle.rmt_bits.specs.declared.lane.Lane.{Lane}
use Rattle.rmt_ast.specs.declared.program.Program.{Program}
use Rattle.rmt_config.specs.declared.config.ParserConfig.{ParserConfig}
use Rattle.rmt_ptcam.specs.Joins.{replayed}
use Rattle.rmt_ptcam.specs.Plain.{planned}
use Rattle.rmt_verify.specs.Types.{Join}

-- the plain parser exists, and where the joins are made on it, one after another, each is there, can be made, and a parser comes of it
pub record IsMadeOf (p : Program) (places : List (List Lane)) (joins : List Join) (parser : ParserConfig) : Type 0 where
  pub first : ParserConfig
  pub plain : planned p places ≡ Ok first
  pub made : replayed first joins ≡ Some parser
