-- What `report` gives: the use of a configuration as one line of JSON.
use Rattle.std.specs.Prelude.{◌≡◌, List, ℕ, ◌++◌, codes}
use Rattle.serde_json.specs.Written.{compact_text}
use Rattle.rmt_core.specs.Types.{Config}
use Rattle.rmt_report.specs.Report.{report_of}
use Rattle.rmt_drive.specs.declared.status.Status.TheVariants.{Done}
use Rattle.rmt_drive.specs.Files.{Files, image_limit}
use Rattle.rmt_drive.specs.Given.{Given, Reads, told}
use Rattle.rmt_core.specs.Simulating.{Spelled}

-- the report and a line feed
abbrev pub report_line : Config → List ℕ
report_line c = compact_text (report_of c) ++ codes "\n"

-- `report IMAGE`
abbrev pub GivesReport : Files → List ℕ → Given → Type 0
GivesReport files image = Reads files image image_limit (λ bytes. Spelled files bytes (λ c g. g ≡ told files Done (report_line c)))
