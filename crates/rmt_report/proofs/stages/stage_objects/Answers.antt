use Rattle.std.proofs.Common.{◌∙◌, ap}
use Rattle.serde_json.specs.View.{view}
use Rattle.rmt_config.specs.declared.config.Stage.{Stage}
use Rattle.rmt_report.specs.StageUse.{use_of}
use Rattle.rmt_report.specs.Report.{stage_report}
use Rattle.rmt_report.proofs.ReportLaws.{objects_more}
use Rattle.rmt_report.proofs.stages.stage_objects.Goals as goal

pub loop-stage-preserved : goal.loop-stage-preserved
loop-stage-preserved c =
    objects_more view (λ (stage : Stage). stage_report (use_of stage)) c.args.stages.now c.loop-stage.stage-index c.stage-item.result c.loop-stage.objects.items c.push.new.self.items
    c.in_ok-object.object c.loop-stage-test.true c.stage-item.is c.in_ok-push.ensures.items (c.in_ok-object.ensures ∙ ap stage_report c.stage_use.ensures) c.loop-stage.invariant
