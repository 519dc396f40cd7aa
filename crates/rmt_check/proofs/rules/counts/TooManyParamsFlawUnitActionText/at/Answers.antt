use Rattle.std.proofs.Common.{ap, ◌∙◌, List, drop, map}
use Rattle.std.proofs.lemmas.List.{drop-map}
use Rattle.std.proofs.lemmas.Simd.{map-map}
use Rattle.rmt_check.specs.Parts.{Declared}
use Rattle.rmt_check.specs.Rules.{earliest}
use Rattle.rmt_check.proofs.rules.counts.TooManyParamsFlawUnitActionText.at.Goals as goal

pub returns : goal.returns
returns c = rw (drop-map, map-map) (c.earliest_beyond.ensures ∙ ap (λ (ds : List Declared). earliest (map (λ (d : Declared). d.ident.place) (drop 16 ds))) c.as_slice.ensures)
