use Rattle.std.proofs.Common.{subst, sym}
use Rattle.std.specs.Prelude.{All}
use Rattle.rmt_report.specs.Fits.{StageFits}
use Rattle.rmt_report.proofs.ReportLaws.{stages_fit}
use Rattle.rmt_report.proofs.text.report_object.Goals as goal

pub stage_objects-requires : goal.stage_objects-requires
stage_objects-requires c = subst (All StageFits) (sym c.as_slice-2.ensures) (stages_fit c.args.config.now c.requires)
