use Rattle.std.proofs.Common.{arith, sym, ◌∙◌, max, cond, ap, ◌≡◌, get_or, ◌+◌, ◌≤◌, ◌*◌}
use Rattle.rmt_place.proofs.StartLaws.{stage_passed_by}
use Rattle.rmt_place.proofs.start.behind_parts.Goals as goal
use Rattle.rmt_place.proofs.start.behind_parts.Goals.{then-has_part, else-has_part}

pub loop-stage-preserved : goal.loop-stage-preserved
loop-stage-preserved c =
    let now : c.if-has_part.latest ≡ cond c.has_part.result (max c.loop-stage.latest (get_or c.args.starts.now c.loop-stage.stage 0 + c.args.distance)) c.loop-stage.latest =
    elim c.if-has_part.branch [
      | then-has_part w ↦ w.latest-is ∙ (w.max-latest.ensures ∙ sym (ap (λ b. cond b (max c.loop-stage.latest (get_or c.args.starts.now c.loop-stage.stage 0 + c.args.distance)) c.loop-stage.latest) w.if-has_part.true))
      | else-has_part w ↦ w.latest-is ∙ sym (ap (λ b. cond b (max c.loop-stage.latest (get_or c.args.starts.now c.loop-stage.stage 0 + c.args.distance)) c.loop-stage.latest) w.if-has_part.false)
    ] in
    record {
      value = λ parts m.
          stage_passed_by c.args.starts.now parts c.loop-stage.stage _ c.args.node c.args.distance c.loop-stage.latest c.if-has_part.latest c.has_part.result c.loop-stage-test.true
          (c.has_part.ensures parts m) now
          ∙ c.loop-stage.invariant.value parts m;
      early =
          let earlier : get_or c.args.starts.now c.loop-stage.stage 0 ≤ 12 * c.loop-stage.stage = c.requires.early c.loop-stage.stage c.loop-stage-test.true in
          elim c.if-has_part.branch [ then-has_part w ↦ omega (arith, w.latest-is, earlier) | else-has_part w ↦ omega (arith, w.latest-is) ];
    }
