-- The line of the use, or that of the fault.
use Rattle.std.proofs.Common.{◌≡◌, Ok, inl, inr, refl, ⊎_elim}
use Rattle.rmt_drive.specs.declared.status.Status.TheVariants.{BadImage, Done}
use Rattle.rmt_drive.specs.Files.{Files}
use Rattle.rmt_drive.specs.Given.{Given, told}
use Rattle.rmt_core.specs.Reporting.{report_line}
use Rattle.rmt_core.specs.Simulating.{Spelled}
use Rattle.rmt_core.specs.ImageFaults.{bad_image_line}
use Rattle.rmt_core.specs.Types.{Config}
use Rattle.rmt_core.proofs.CallLaws.{ends_told, told_quiet}
use Rattle.rmt_core.proofs.GoingOn.{bad_image_answered}
use Rattle.rmt_core.proofs.TextLaws.{line_answered}
use Rattle.rmt_core.proofs.reporting.report_bytes.Goals as goal

-- what is told of a configuration
abbrev use_of : Files → Config → Given → Type 0
use_of files k given = given ≡ told files Done (report_line k)

pub returns-in-Ok-clause-possible : goal.returns-in-Ok-clause-possible
returns-in-Ok-clause-possible g c = ⊎_elim (λ e. inl e) (λ e. inr (inr e)) (c.tell.ensures.line (report_line c.in-Ok.config) c.use_line.ensures).kind

pub returns-in-Ok-clause-call : goal.returns-in-Ok-clause-call
returns-in-Ok-clause-call g c = λ shelf.
    let line = c.tell.ensures.line (report_line c.in-Ok.config) c.use_line.ensures in
    ends_told shelf _ _ (λ files. Spelled files c.args.bytes.now (use_of files)) Done c.tell.result (report_line c.in-Ok.config) (λ e. cc) line c.tell.ensures.only_printed
    (line_answered _ _ (Spelled shelf.files c.args.bytes.now (use_of shelf.files)) Done c.tell.result (report_line c.in-Ok.config)
    (Ok c.in-Ok.config, c.in-Ok.ensures.exact (λ e. cc), refl) (λ _. refl) (inl refl) line)

pub returns-in-Err-clause-call : goal.returns-in-Err-clause-call
returns-in-Err-clause-call g c = λ shelf.
    ends_told shelf _ _ (λ files. Spelled files c.args.bytes.now (use_of files)) BadImage c.tell_bad_image.result (bad_image_line c.in-Err.fault) (λ e. cc)
    c.tell_bad_image.ensures.line c.tell_bad_image.ensures.only_printed
    (bad_image_answered _ _ c.args.bytes.now (use_of shelf.files) c.in-Err.fault c.tell_bad_image.result c.in-Err.ensures.exact c.tell_bad_image.ensures.no_memory (λ _. refl)
    c.tell_bad_image.ensures.line)

pub returns-in-Ok-clause-quiet : goal.returns-in-Ok-clause-quiet
returns-in-Ok-clause-quiet g c =
    let line = c.tell.ensures.line (report_line c.in-Ok.config) c.use_line.ensures in
    told_quiet Done c.tell.result (λ e. cc) (λ e. cc) line.quiet line.kind

pub returns-in-Err-clause-quiet : goal.returns-in-Err-clause-quiet
returns-in-Err-clause-quiet g c =
    let line = c.tell_bad_image.ensures.line in
    told_quiet BadImage c.tell_bad_image.result (λ e. cc) (λ e. cc) line.quiet line.kind
