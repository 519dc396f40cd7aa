use Rattle.std.proofs.Common.{◌≡◌, ◌++◌, ◌∙◌, ap, arith, sym}
use Rattle.rmt_pack.specs.Placements.{quanta_in}
use Rattle.rmt_build.specs.Loads.{ways_for}
use Rattle.rmt_build.proofs.LayoutLaws.{layout_next, layout_upto}
use Rattle.rmt_build.proofs.loading.layout_of.Goals as goal

pub loop-stage-preserved : goal.loop-stage-preserved
loop-stage-preserved c =
    let per = c.args.format.now.per in
    let parts = c.args.parts.now in
    let n = c.args.node in
    let k = c.loop-stage.stage in
    c.in_ok-push_ways.ensures
    ∙ ap (λ q. c.loop-stage.layout ++ ways_for q per) c.quanta_in.ensures
    ∙ ap (λ ws. ws ++ ways_for (quanta_in parts n k) per) c.loop-stage.invariant
    ∙ sym (layout_next per parts n k)

pub returns : goal.returns
returns c =
    let last : c.loop-stage.stage ≡ 32 = omega (arith, c.loop-stage-test.false, c.loop-stage.auto.stage-end) in
    c.loop-stage.invariant ∙ ap (layout_upto c.args.format.now.per c.args.parts.now c.args.node) last
