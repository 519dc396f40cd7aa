use Rattle.std.proofs.Common.{◌≡◌, ◌≤◌, ◌+◌, ℕ, take, subst, sym, ◌∙◌, arith, inl, inr}
use Rattle.std.proofs.lemmas.Bool.{cases_lt}
use Rattle.rmt_config.specs.Resources.{node_numbers, node_count}
use Rattle.rmt_config.proofs.LimitLemmas.{marks_of_stage, crowded_at}
use Rattle.rmt_config.proofs.limits.node.stage_of_129th.Goals as goal

pub returns-then-count_marks-gt128 : goal.returns-then-count_marks-gt128
returns-then-count_marks-gt128 c =
    let stages = c.args.stages.now in
    let i = c.loop-stage.stage-index in
    let seen = marks_of_stage stages i c.stage-item.result c.as_slice.result.now c.mark_nodes.new.marks c.loop-stage-test.true c.stage-item.is c.as_slice.ensures
    (c.mark_nodes.ensures (node_numbers (take i stages)) c.loop-stage.invariant.seen) in
    let counted : c.count_marks.result ≡ node_count (take (i + 1) stages) = c.count_marks.ensures (node_numbers (take (i + 1) stages)) seen in
    c.loop-stage.invariant.place
    ∙ sym (crowded_at stages i (omega (arith, c.loop-stage-test.true)) c.loop-stage.invariant.not_yet (λ lt. omega (arith, counted, c.if-count_marks-gt128.true)))

pub loop-stage-preserved : goal.loop-stage-preserved
loop-stage-preserved c =
    let stages = c.args.stages.now in
    let i = c.loop-stage.stage-index in
    let seen = marks_of_stage stages i c.stage-item.result c.as_slice.result.now c.mark_nodes.new.marks c.loop-stage-test.true c.stage-item.is c.as_slice.ensures
    (c.mark_nodes.ensures (node_numbers (take i stages)) c.loop-stage.invariant.seen) in
    let counted : c.count_marks.result ≡ node_count (take (i + 1) stages) = c.count_marks.ensures (node_numbers (take (i + 1) stages)) seen in
    record {
      place = omega (arith, c.loop-stage.invariant.place);
      seen = seen;
      not_yet = λ k lt.
          elim (cases_lt k i) [
            | inl less ↦ c.loop-stage.invariant.not_yet k less
            | inr more ↦
                let same : k ≡ i = omega (arith, lt, more) in
                subst (λ (j : ℕ). node_count (take (j + 1) stages) ≤ 128) (sym same) (omega (arith, counted, c.if-count_marks-gt128.false))
          ];
    }

pub returns : goal.returns
returns c =
    c.loop-stage.invariant.place
    ∙ sym (crowded_at c.args.stages.now c.loop-stage.stage-index (omega arith) c.loop-stage.invariant.not_yet (λ lt. absurd (omega (arith, lt, c.loop-stage-test.false))))
