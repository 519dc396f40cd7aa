-- The joins of the clustered parser as a list, and parsers that joins are made on.
use Rattle.std.specs.Prelude.{List, [], ◌∷◌, Option, Some, option_map, Result}
use Rattle.std.specs.Option.{option_and_then}
use Rattle.rmt_bits.specs.declared.lane.Lane.{Lane}
use Rattle.rmt_ptcam.specs.Types.{Program, ParserConfig}
use Rattle.rmt_ptcam.specs.declared.fault.ParserFault.{ParserFault}
use Rattle.rmt_ptcam.specs.declared.joins.Join.{Join}
use Rattle.rmt_ptcam.specs.Clustering.{all_headers, compact}
use Rattle.rmt_ptcam.specs.Joining.{join_named}
use Rattle.rmt_ptcam.specs.Needs.{refusal, unless}
use Rattle.rmt_ptcam.specs.Plain.{plain}

-- ---- joins that are made on a parser

-- the parser behind joins, one after another
abbrev pub behind_joins : ParserConfig → List Join → Option ParserConfig
behind_joins parser [] = Some parser
behind_joins parser (j ∷ js) = option_and_then (λ (q : ParserConfig). behind_joins q js) (join_named parser j)

-- the same without states that can't be met, the others numbered in order
abbrev pub replayed : ParserConfig → List Join → Option ParserConfig
replayed parser js = option_map compact (behind_joins parser js)

-- ---- the joins of the rule

-- the joins of the clustered parser, on the plain one
abbrev pub joins : Program → List (List Lane) → List Join
joins p places = (all_headers p (plain p places)).joins

-- these, or why there is no parser
abbrev pub joins_or : Program → List (List Lane) → Result (List Join) ParserFault
joins_or p places = unless (refusal p) (joins p places)
