use Rattle.std.proofs.Common.{◌≡◌, ◌∙◌, ℕ, ◌+◌, ◌≤◌, map, min, sum, take, sym, ap, ap₂, arith}
use Rattle.std.proofs.lemmas.List.{take_all}
use Rattle.std.proofs.lemmas.List.Sums.{sum_by_more, sum-map}
use Rattle.rmt_check.proofs.rules.sums.sum_up_to.Goals as goal

capped : (so_far one limit most was sat next all : ℕ) → limit ≤ most → was ≡ min so_far limit → sat ≡ min (was + one) most → next ≡ min sat limit → all ≡ so_far + one → next ≡ min all limit
capped so_far one limit most was sat next all fits w s n a = omega arith

pub loop-item-preserved : goal.loop-item-preserved
loop-item-preserved g c =
    let width = g.T.Wide.width_in c.args.shared.now in
    let xs = c.args.items.now in
    let i = c.loop-item.item-index in
    let fits : c.args.limit ≤ 340282366920938463463374607431768211455 = omega (arith, c.ranges.limit.fits) in
    let all : sum (map width (take (i + 1) xs)) ≡ sum (map width (take i xs)) + c.width_in.result =
    sum-map width (take (i + 1) xs) ∙ sum_by_more width xs i c.item-item.result c.loop-item-test.true
    ∙ ap₂ (λ (m n : ℕ). m + n) (sym (sum-map width (take i xs))) (sym (c.width_in.ensures ∙ ap width c.item-item.is)) in
    capped (sum (map width (take i xs))) c.width_in.result c.args.limit _ c.loop-item.sum c.saturating_add.result c.min-sum.result _ fits c.loop-item.invariant c.saturating_add.ensures c.min-sum.ensures all

pub returns : goal.returns
returns g c =
    let width = g.T.Wide.width_in c.args.shared.now in
    c.loop-item.invariant ∙ ap (λ xs. min (sum (map width xs)) c.args.limit) (take_all c.loop-item.item-index c.args.items.now c.loop-item-test.false)
