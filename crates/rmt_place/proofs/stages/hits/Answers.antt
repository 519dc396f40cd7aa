use Rattle.std.proofs.Common.{◌≡◌, ◌∙◌, ◌++◌, ◌+◌, ◌-◌, List, Option, sym, ap, append_assoc}
use Rattle.std.specs.List.{range_with_len}
use Rattle.rmt_config.specs.declared.limits.LimitHit.{LimitHit}
use Rattle.rmt_place.specs.declared.demand.Demand.{Demand}
use Rattle.rmt_place.specs.Needs.{demand_at}
use Rattle.rmt_place.specs.Placing.{fitting, hit_beside, hit_list, hits_in, standing_in}
use Rattle.rmt_place.proofs.StageLaws.{hits_step}
use Rattle.rmt_place.proofs.stages.hits.Goals as goal

pub loop-stage-preserved : goal.loop-stage-preserved
loop-stage-preserved c = λ demands parts n h is.
    let k = c.loop-stage.stage in
    let left = c.loop-stage.left in
    let taken = c.most_that_fit-taken.result in
    let xs = standing_in demands parts k in
    let d = demand_at demands n in
    let fits = c.most_that_fit-taken.ensures.value xs (h.holds k _ c.loop-stage-test.true) in
    let taken_is : taken ≡ fitting xs d left = fits ∙ ap (λ (e : Demand). fitting xs e left) (sym is) in
    let hit : c.hit.result ≡ hit_beside k xs d taken =
    c.hit.ensures xs (h.holds k _ c.loop-stage-test.true) (h.kept k c.loop-stage-test.true) left fits ∙ ap (λ (e : Demand). hit_beside k xs e taken) (sym is) in
    let pushed : c.push_hit.new.hits ≡ c.loop-stage.hits ++ hit_list c.hit.result = c.in_ok-push_hit.ensures in
    let rest = hits_in demands parts n (range_with_len (k + 1) (32 - (k + 1))) (left - taken) in
    ap (λ (l : List LimitHit). l ++ rest) (pushed ∙ ap (λ (o : Option LimitHit). c.loop-stage.hits ++ hit_list o) hit)
    ∙ (append_assoc c.loop-stage.hits (hit_list (hit_beside k xs d taken)) rest
    ∙ (sym (ap (λ (l : List LimitHit). c.loop-stage.hits ++ l) (hits_step demands parts n k left taken c.loop-stage-test.true taken_is))
    ∙ c.loop-stage.invariant demands parts n h is))
