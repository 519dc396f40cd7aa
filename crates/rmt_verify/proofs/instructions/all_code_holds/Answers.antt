use Rattle.std.proofs.Common.{refl, subst, arith}
use Rattle.std.specs.Prelude.{All}
use Rattle.std.proofs.lemmas.List.{take_all}
use Rattle.std.proofs.lemmas.List.Elements.{All-more}
use Rattle.rmt_verify.specs.StageCode.{StageCoded}
use Rattle.rmt_verify.proofs.instructions.all_code_holds.Goals as goal

pub loop-stage-preserved : goal.loop-stage-preserved
loop-stage-preserved c =
    let P = StageCoded c.args.coding.now.program.now c.args.coding.now.places.now in
    All-more P c.args.stages.now c.loop-stage.stage-index c.stage-item.result c.loop-stage-test.true c.loop-stage.invariant
    (subst P c.stage-item.is (c.in_ok-stage_code_holds.ensures.0 (cc)))

pub returns : goal.returns
returns c = (
  λ yes. subst (All (StageCoded c.args.coding.now.program.now c.args.coding.now.places.now)) (take_all c.loop-stage.stage-index c.args.stages.now (omega (arith, c.loop-stage-test.false))) c.loop-stage.invariant,
  λ all. refl,
)
