use Rattle.std.proofs.Common.{◌≡◌, map, take}
use Rattle.serde_json.specs.View.{view}
use Rattle.rmt_report.specs.StageUse.{use_of}
use Rattle.rmt_report.specs.Report.{stage_report}
use Rattle.rmt_config.specs.declared.config.Stage.{Stage}
use Rattle.rmt_report.proofs.stages.stage_objects.Given as goal

abbrev pub invariant-loop-stage : goal.invariant-loop-stage
invariant-loop-stage l = map view l.objects.items ≡ map (λ (stage : Stage). stage_report (use_of stage)) (take l.stage-index l.stages)
