use Rattle.std.proofs.Common.{map, ap, ◌∙◌}
use Rattle.std.proofs.lemmas.List.{take_all}
use Rattle.rmt_check.specs.Rules.{earliest}
use Rattle.rmt_check.proofs.Earliest.{earliest_more_place}
use Rattle.rmt_check.proofs.rules.places.earliest_beyond.Goals as goal

pub loop-item-preserved : goal.loop-item-preserved
loop-item-preserved g c = earliest_more_place _ _ _ _ _ _ _ c.loop-item-test.true c.item-item.is c.loop-item.invariant c.place.ensures c.earlier-first.ensures.value

pub returns : goal.returns
returns g c = c.loop-item.invariant ∙ ap (λ xs. earliest (map g.T.Placed.place_of xs)) (take_all c.loop-item.item-index _ c.loop-item-test.false ∙ c.beyond-further.ensures)
