-- A configuration reads and writes the ports, the mark of dropping and the headers of a program where their fields stand.
use Rattle.std.specs.Prelude.{List}
use Rattle.std.specs.List.{AllZip}
use Rattle.rmt_bits.specs.declared.lane.Lane.{Lane}
use Rattle.rmt_ast.specs.declared.program.Program.{Program}
use Rattle.rmt_config.specs.declared.config.Config.{Config}
use Rattle.rmt_refine.specs.Places.{HeaderCarried, StandsIn}

pub record ReadThere (p : Program) (places : List (List Lane)) (c : Config) : Type 0 where
  pub in_port : StandsIn places 0 c.in_port
  pub out_port : StandsIn places 1 c.out_port
  pub drop : StandsIn places 2 c.drop
  pub headers : AllZip (HeaderCarried places) p.headers c.headers
