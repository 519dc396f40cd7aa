-- What a run of the chip over a packet text gives. Where a commit moves cells its loading is free, so one text may have several runs.
use Rattle.std.specs.Prelude.{◌≡◌, ℕ, List, ◌++◌, Bool, false, ◌||◌, Option, Some, None, length, nat_lt}
use Rattle.rmt_bits.specs.Lines.{numbered_lines}
use Rattle.rmt_io.specs.Outside.{Gained, SinkState}
use Rattle.rmt_ast.specs.declared.entry.Entry.{Entry}
use Rattle.rmt_ast.specs.declared.names.Names.{Names}
use Rattle.rmt_ast.specs.Events.{Event}
use Rattle.rmt_chip.specs.declared.chip.Chip.{Chip}
use Rattle.rmt_chip.specs.Stands.{Stands}
use Rattle.rmt_config.specs.Commits.{RunState, RunsTo}
use Rattle.rmt_config.specs.RunInputs.{Input}
use Rattle.rmt_packets.specs.PacketText.{BadLine}
use Rattle.rmt_config.specs.declared.config.Config.{Config}
use Rattle.rmt_drive.specs.declared.watch.Watch.{Watch}
use Rattle.rmt_drive.specs.ChipEvents.{Comes, IsRefused, arrived, begins, empty_cycles, turned, lists_in, names_in}
use Rattle.rmt_drive.specs.ChipReading.{by_chip, read_by}
use Rattle.rmt_drive.specs.ChipText.{end_of, lines_of, run_text}
use Rattle.rmt_drive.specs.EventText.{EventReading}
use Rattle.rmt_drive.specs.Files.{Files}
use Rattle.rmt_drive.specs.Given.{Given, told}
use Rattle.rmt_drive.specs.Runs.{run_status, said_within, told_within}

-- the first bad line among those that end within the limit
abbrev pub bad_within : Config → Option ℕ → ℕ → List ℕ → Option BadLine
bad_within c full limit text = (said_within (by_chip c full) limit text).bad

-- what is told of a text: where it is too long and has no bad line within the limit, of all of it
abbrev pub told_of : Config → Option ℕ → ℕ → List ℕ → EventReading
told_of c full limit text = told_within (by_chip c full) limit text (bad_within c full limit text)

-- where a commit finds no room it is the first bad line: a cell must move, and under no seed from 0 to 7 all exact tables have a loading
abbrev pub EndsFull : Config → RunState → EventReading → Option ℕ → Type 0
EndsFull c r said None = Unit {0}
EndsFull c r said (Some before) = (line : ℕ) × (said.bad ≡ Some (record { code = 10; line = line })) × IsRefused c (names_in c) r said.changes

-- One run over a text of which so many bytes may be read: it came to here by these inputs, with the commit that finds no room, if one does.
pub record RunsSo (watch : Watch) (files : Files) (c : Config) (limit : ℕ) (text : List ℕ) (full : Option ℕ) (made : List Input) (r : RunState) (g : Given) : Type 0 where
  pub comes : Comes c (names_in c) (lists_in c) (told_of c full limit text).events made r
  pub ends : EndsFull c r (told_of c full limit text) full
  pub given_is : g ≡ told files (run_status (nat_lt limit (length text)) (bad_within c full limit text)) (run_text watch c made (empty_cycles r) (told_of c full limit text).bad)

-- what a run over a text gives
abbrev pub RunsChip : Watch → Files → Config → ℕ → List ℕ → Given → Type 0
RunsChip watch files c limit text g = (full : Option ℕ) × (made : List Input) × (r : RunState) × RunsSo watch files c limit text full made r g

-- A text has no bad line, and for one run that it may have a chip stands for all of the run's inputs, and a sink that tells its bytes gained the run's text.
pub record RanWhole (watch : Watch) (c : Config) (text : List ℕ) (chip : Chip) (before now : SinkState) : Type 0 where
  pub inputs : List Input
  pub good : (read_by c None (numbered_lines 1 text)).bad ≡ None
  pub runs : RunsTo c (names_in c) (lists_in c) (read_by c None (numbered_lines 1 text)).events inputs
  pub stands : Stands c inputs chip
  pub gained : Gained before now (lines_of watch c inputs ++ end_of watch c inputs None)

-- a run has a commit that moves cells
abbrev pub has_moved : (c : Config) (names : Names) (lists : List (List Entry)) (events : List Event) (made : List Input) (r : RunState) → Comes c names lists events made r → Bool
has_moved c names lists events made r begins = false
has_moved c names lists events made r (arrived before inputs s packet comes) = has_moved c names lists before inputs s comes
has_moved c names lists events made r (turned before inputs s changes moved seed next writes comes makes are) = moved || has_moved c names lists before inputs s comes
