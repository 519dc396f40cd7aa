-- A program text and an entry text that are read from files.
use Rattle.std.specs.Prelude.{ℕ, List}
use Rattle.rmt_io.specs.Outside.{ShelfState}
use Rattle.rmt_drive.specs.declared.status.Status.{Status}
use Rattle.rmt_core.specs.declared.text_files.TextFiles.{TextFiles}
use Rattle.rmt_drive.specs.Files.{Files, entries_limit, program_limit}
use Rattle.rmt_drive.specs.Given.{Given, Reads}
use Rattle.rmt_drive.specs.Loading.{IsFound, NotRead}

-- both files were found
pub record AreFound (shelf : ShelfState) (program_name entries_name : List ℕ) (texts : TextFiles) : Type 0 where
  pub program : IsFound shelf program_name program_limit texts.program.items
  pub entries : IsFound shelf entries_name entries_limit texts.entries.items

-- one of them was not read, behind the one before it
pub data NoneRead (shelf : ShelfState) (program entries : List ℕ) (status : Status) : Type 0 where
  no_program : NotRead shelf program program_limit status → NoneRead shelf program entries status
  no_entries : (text : List ℕ) → IsFound shelf program program_limit text → NotRead shelf entries entries_limit status → NoneRead shelf program entries status

-- a command that reads both, and goes on with their bytes
abbrev pub ReadsTexts : Files → List ℕ → List ℕ → (List ℕ → List ℕ → Given → Type 0) → Given → Type 0
ReadsTexts files program entries next = Reads files program program_limit (λ text. Reads files entries entries_limit (λ entry_text. next text entry_text))
