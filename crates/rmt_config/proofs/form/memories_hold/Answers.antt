use Rattle.std.proofs.Common.{◌+◌, get_or, drop, sym, subst}
use Rattle.std.specs.Prelude.{All}
use Rattle.std.proofs.lemmas.Bool.{false≢true, both_ways}
use Rattle.std.proofs.lemmas.List.Elements.{All-cons, All-head, All-tail}
use Rattle.rmt_config.specs.CellForm.{StageHolds}
use Rattle.rmt_config.proofs.RiseLaws.{one_off}
use Rattle.rmt_config.proofs.form.memories_hold.Goals as goal

pub returns-then-not-stage_holds : goal.returns-then-not-stage_holds
returns-then-not-stage_holds c =
    let stages = c.args.stages.now in
    let i = c.loop-stage.stage-index in
    let d = c.stage-item.result in
    let e = one_off stages i d c.loop-stage-test.true in (
      λ f. absurd (false≢true f),
      λ all.
          let here = All-head (StageHolds c.args.visible) (get_or stages i d) (drop (i + 1) stages) (subst (All (StageHolds c.args.visible)) e (c.loop-stage.invariant.so_far.0 all)) in
          absurd (both_ways c.stage_holds.result c.if-not-stage_holds.true (c.stage_holds.ensures.1 (subst (StageHolds c.args.visible) (sym c.stage-item.is) here))),
    )

pub loop-stage-preserved : goal.loop-stage-preserved
loop-stage-preserved c =
    let stages = c.args.stages.now in
    let i = c.loop-stage.stage-index in
    let d = c.stage-item.result in
    let rest = drop (i + 1) stages in
    let e = one_off stages i d c.loop-stage-test.true in
    record {
      so_far = (
        λ all. All-tail (StageHolds c.args.visible) (get_or stages i d) rest (subst (All (StageHolds c.args.visible)) e (c.loop-stage.invariant.so_far.0 all)),
        λ more. c.loop-stage.invariant.so_far.1
            (subst (All (StageHolds c.args.visible)) (sym e) (All-cons (StageHolds c.args.visible) (get_or stages i d) rest (subst (StageHolds c.args.visible) c.stage-item.is (c.stage_holds.ensures.0 c.if-not-stage_holds.false)) more)),
      );
    }
