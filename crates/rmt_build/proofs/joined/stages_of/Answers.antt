use Rattle.std.proofs.Common.{◌∷◌, [], length, length-append, ap, sym, subst, arith, rules, tests}
use Rattle.rmt_ast.specs.WellFormed.{AllNumbered}
use Rattle.rmt_build.specs.BuiltStage.{IsBuiltStage}
use Rattle.rmt_build.proofs.joined.stages_of.Goals as goal
use Rattle.rmt_ast.proofs.WellFormedLemmas.{AllNumbered-push}

pub stage_of-requires-clause-planned : goal.stage_of-requires-clause-planned
stage_of-requires-clause-planned c = record {
  program = c.requires.program;
  entries = c.requires.entries;
  is_plan = c.requires.plan.is_plan;
  stage = search (rules, tests);
}

pub loop-number-preserved : goal.loop-number-preserved
loop-number-preserved c =
    let stage = c.in_ok-stage_of.field-0 in
    let pushed = c.in_ok-push.ensures.ok in
    let so_far = c.loop-number.invariant.so_far in
    record {
      so_far = omega (arith, ap length pushed, length-append c.loop-number.stages (stage ∷ []), so_far);
      each = subst (AllNumbered (IsBuiltStage c.args.whole.now.program.now c.args.whole.now.entries.now c.args.whole.now.plan.now)) (sym pushed)
          (AllNumbered-push (IsBuiltStage c.args.whole.now.program.now c.args.whole.now.entries.now c.args.whole.now.plan.now) c.loop-number.stages stage c.loop-number.invariant.each
          (subst (λ n. IsBuiltStage c.args.whole.now.program.now c.args.whole.now.entries.now c.args.whole.now.plan.now n stage) (sym so_far) c.in_ok-stage_of.ensures.stage));
    }
