-- First part of a configuration's carrying a program: where its fields stand.
use Rattle.std.specs.Prelude.{◌≡◌, ℕ, List, [], ◌∷◌}
use Rattle.std.specs.List.{AllZip}
use Rattle.rmt_bits.specs.declared.lane.Lane.{Lane}
use Rattle.rmt_refine.specs.Types.{Program, Header, Config, OutHeader}
use Rattle.rmt_ast.specs.Places.{lanes_of}
use Rattle.rmt_phv.specs.Places.{KeepsApart, high_first}

-- a field of one piece stands in that lane
abbrev pub StandsIn : List (List Lane) → ℕ → Lane → Type 0
StandsIn places f lane = lanes_of places f ≡ lane ∷ []

-- a header is sent by the lanes of its fields
pub record HeaderCarried (places : List (List Lane)) (h : Header) (o : OutHeader) : Type 0 where
  pub valid : StandsIn places h.valid o.valid
  pub bytes : o.bytes ≡ h.bytes
  pub pieces : o.pieces ≡ high_first places h.fields

-- The fields have places that keep apart, and the configuration reads and writes the ports, the mark of dropping and the headers there.
pub record PlacesCarried (p : Program) (places : List (List Lane)) (c : Config) : Type 0 where
  pub apart : KeepsApart p places
  pub in_port : StandsIn places 0 c.in_port
  pub out_port : StandsIn places 1 c.out_port
  pub drop : StandsIn places 2 c.drop
  pub headers : AllZip (HeaderCarried places) p.headers c.headers
