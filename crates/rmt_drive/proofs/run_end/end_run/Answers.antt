-- A text that is printed whole is a front of itself; and a run that comes to its end is never one whose sink failed.
use Rattle.std.proofs.Common.{◌≡◌, Option, None, Some, sym, ◌∙◌}
use Rattle.rmt_runs.specs.declared.fault.Bad.{Bad}
use Rattle.rmt_runs.proofs.FrontLaws.{gains_all}
use Rattle.rmt_drive.specs.declared.status.Status.TheVariants as status
use Rattle.rmt_drive.specs.RunEnd.{status_of_end}
use Rattle.rmt_drive.proofs.run_end.end_run.Goals as goal

not_failed : (bad : Option Bad) → status_of_end bad ≡ status.WriteFault → ⊥
not_failed None e = cc
not_failed (Some b) e = cc

pub returns-in-Ok-clause-front : goal.returns-in-Ok-clause-front
returns-in-Ok-clause-front g c = λ t. gains_all _ _ _ (c.in-Ok.ensures.printed t)

pub returns-in-Ok-clause-some : goal.returns-in-Ok-clause-some
returns-in-Ok-clause-some g c = λ e. absurd (not_failed c.args.bad (sym c.end_status.ensures ∙ e))

pub returns-in-Ok-clause-failed : goal.returns-in-Ok-clause-failed
returns-in-Ok-clause-failed g c = λ e. absurd (not_failed c.args.bad (sym c.end_status.ensures ∙ e))

pub returns-in-Err-clause-printed : goal.returns-in-Err-clause-printed
returns-in-Err-clause-printed g c = λ e. absurd (not_failed c.args.bad (sym e))
