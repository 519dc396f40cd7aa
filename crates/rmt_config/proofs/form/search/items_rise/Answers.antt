use Rattle.std.proofs.Common.{◌+◌, ◌∷◌, drop, map, sym, ap, ◌∙◌, arith}
use Rattle.std.proofs.lemmas.List.{drop_all}
use Rattle.rmt_config.specs.Order.{rises_from}
use Rattle.rmt_config.proofs.RiseLaws.{one_off, rise_on}
use Rattle.rmt_config.proofs.form.search.items_rise.Goals as goal

pub loop-item-preserved : goal.loop-item-preserved
loop-item-preserved g c =
    let f = g.T.Numbered.place_of in
    let xs = c.args.items.now in
    let i = c.loop-item.item-index in
    let rest = map f (drop (i + 1) xs) in
    rise_on c.loop-item.least c.place-place.result (map f (drop i xs)) rest _
    (ap (map f) (one_off xs i c.item-item.result c.loop-item-test.true) ∙ ap (λ x. f x ∷ rest) (sym c.item-item.is) ∙ ap (λ n. n ∷ rest) (sym c.place-place.ensures))
    (omega arith) c.loop-item.invariant

pub returns : goal.returns
returns g c =
    sym (ap (λ xs. rises_from c.loop-item.least (map g.T.Numbered.place_of xs)) (drop_all c.loop-item.item-index c.args.items.now c.loop-item-test.false)) ∙ c.loop-item.invariant
