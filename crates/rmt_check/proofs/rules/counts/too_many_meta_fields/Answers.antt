use Rattle.std.proofs.Common.{ap, ◌∙◌, List, drop, map}
use Rattle.std.proofs.lemmas.List.{drop-map}
use Rattle.std.proofs.lemmas.Simd.{map-map}
use Rattle.std.specs.Borrow.{Bor}
use Rattle.rmt_check.specs.Parts.{Declared}
use Rattle.rmt_check.specs.Rules.{earliest}
use Rattle.rmt_check.proofs.rules.counts.too_many_meta_fields.Goals as goal

pub returns : goal.returns
returns c =
    rw (← c.in_ok-fields.ensures, drop-map, map-map, drop-map, map-map)
    (c.earliest_beyond.ensures ∙ ap (λ (ds : List (Bor Declared)). earliest (map (λ (d : Bor Declared). d.now.ident.place) (drop 256 ds))) c.as_slice.ensures.value)
