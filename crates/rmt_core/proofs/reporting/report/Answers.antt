-- The image is read, or not.
use Rattle.std.proofs.Common.{◌≡◌, Err, ℕ, List, ap, refl, ◌∙◌}
use Rattle.std.specs.Prelude.{string_bytes}
use Rattle.rmt_drive.specs.declared.status.Status.TheVariants.{Done}
use Rattle.rmt_drive.specs.Files.{Files, image_limit}
use Rattle.rmt_drive.specs.Given.{Given, told}
use Rattle.rmt_core.specs.Reporting.{report_line}
use Rattle.rmt_core.specs.Simulating.{Spelled}
use Rattle.rmt_core.proofs.CallLaws.{ends_unread, reads_then}
use Rattle.rmt_core.proofs.reporting.report.Goals as goal

-- what follows the reading of the image
abbrev next : Files → List ℕ → Given → Type 0
next files bytes = Spelled files bytes (λ k g. g ≡ told files Done (report_line k))

pub returns-in-Ok-clause-call : goal.returns-in-Ok-clause-call
returns-in-Ok-clause-call g c =
    let mid = g.F.Shelf.state c.read_file.new.shelf in
    reads_then _ _ mid (string_bytes c.args.image.now) next image_limit c.in-Ok.bytes.items c.report_bytes.result
    c.read_file.ensures.only_read c.in-Ok.ensures.found (rw c.as_slice.ensures.value at (c.report_bytes.ensures.call mid))

pub returns-in-Err-clause-call : goal.returns-in-Err-clause-call
returns-in-Err-clause-call g c =
    ends_unread _ _ _ (string_bytes c.args.image.now) next image_limit c.in-Err.status c.read_file.ensures.only_read c.in-Err.ensures.refused
    (λ e. c.read_file.ensures.fault (c.in-Err.is ∙ ap Err e))

pub returns-in-Err-clause-quiet : goal.returns-in-Err-clause-quiet
returns-in-Err-clause-quiet g c = λ _ _. refl
