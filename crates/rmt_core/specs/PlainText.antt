-- What `plain` gives: the answers of a program run table by table, one packet after another, each with the entries that the commits before
-- it leave, and its counters.
use Rattle.std.specs.Prelude.{ℕ, List}
use Rattle.rmt_core.specs.Types.{Program}
use Rattle.rmt_ast.specs.declared.entry.Entry.{Entry}
use Rattle.rmt_drive.specs.EventText.{with_changes}
use Rattle.rmt_drive.specs.Files.{Files, entries_limit, packets_limit, program_limit}
use Rattle.rmt_drive.specs.Given.{Given, Opens, Reads}
use Rattle.rmt_drive.specs.Runs.{RunsBy}
use Rattle.rmt_core.specs.Texts.{Understands}
use Rattle.rmt_drive.specs.PlainText.{plain_text}

-- a run of a program with its entries over a packet text
abbrev pub RunsPlain : Files → List ℕ → Program → List (List Entry) → Given → Type 0
RunsPlain files packet_text p lists = RunsBy (with_changes p lists) files (plain_text p lists) packets_limit packet_text

-- `plain PROGRAM ENTRIES PACKETS`
abbrev pub GivesPlain : Files → List ℕ → List ℕ → List ℕ → Given → Type 0
GivesPlain files program entries packets =
    Reads files program program_limit (λ text.
    Reads files entries entries_limit (λ entry_text.
    Opens files packets (λ packet_text.
    Understands files text entry_text (RunsPlain files packet_text))))

-- ---- the steps of the command

-- a run of the program and the entries that two texts mean over the packets of a third
abbrev pub OfOpen : Files → List ℕ → List ℕ → List ℕ → Given → Type 0
OfOpen files text entry_text packet_text = Understands files text entry_text (RunsPlain files packet_text)

-- and over those of a file
abbrev pub OfTexts : Files → List ℕ → List ℕ → List ℕ → Given → Type 0
OfTexts files packets text entry_text = Opens files packets (OfOpen files text entry_text)
