-- A plain run over a packet text that may change entries.
use Rattle.std.specs.Prelude.{◌≡◌, ◌<◌, ℕ, List, [], ◌∷◌, ◌++◌, Option, None, Some, All, length}
use Rattle.rmt_io.specs.Outside.{SinkState}
use Rattle.rmt_ast.specs.declared.program.Program.{Program}
use Rattle.rmt_ast.specs.declared.entry.Entry.{Entry}
use Rattle.rmt_ast.specs.Changes.{Installed, at_first, committed}
use Rattle.rmt_ast.specs.EntryLists.{AreEntries}
use Rattle.rmt_ast.specs.Events.{Event, answers_of_events}
use Rattle.rmt_ast.specs.Naming.{names_of}
use Rattle.rmt_plain.specs.Stands.{HasTaken, entries_after, entries_in}
use Rattle.rmt_refine.specs.Fit.{AreFitChanges}
use Rattle.rmt_lists.specs.Stands.{Stands}
use Rattle.rmt_runs.specs.Cuts.{Cut}
use Rattle.rmt_runs.specs.declared.fault.RunFault.{RunFault}
use Rattle.rmt_drive.specs.declared.plain_run.PlainRun.{PlainRun}
use Rattle.rmt_runs.specs.declared.fault.Bad.{Bad}
use Rattle.rmt_drive.specs.EventText.{EventReading, events_of, with_bad}
use Rattle.rmt_drive.specs.PlainText.{plain_lines}
use Rattle.rmt_drive.specs.RunEnd.{bad_line}
use Rattle.rmt_runs.specs.Waiting.{Written}

-- the entries as the commits of a text leave them
abbrev pub committed_by : List (List Entry) → EventReading → Installed
committed_by lists said = entries_after (at_first lists) said.events

-- The entries of a text that was read so far: as of the last commit they are well formed, with numbers below the next one, and each change
-- since then can be made where it stands.
pub record IsEdited (p : Program) (lists : List (List Entry)) (said : EventReading) : Type 0 where
  pub names : said.run.names ≡ names_of p lists
  pub last : said.run.last ≡ (committed_by lists said).lists
  pub now : said.run.now ≡ committed (committed_by lists said) said.changes
  pub fit : AreFitChanges p (committed_by lists said) said.changes
  pub entries : AreEntries p (committed_by lists said).lists
  pub below : All (λ (e : Entry). e.number < (committed_by lists said).next) (entries_in (committed_by lists said).lists)

-- the lines of the answers to the packets of a text
abbrev pub event_lines : Program → List (List Entry) → List Event → List ℕ
event_lines p lists events = plain_lines 0 (answers_of_events p lists events)

-- what was read of a text has no bad line, and a run stands for it: the lines of its answers were written but for those that wait
pub record Goes (p : Program) (lists : List (List Entry)) (said : EventReading) (run : PlainRun) (before now : SinkState) : Type 0 where
  pub good : said.bad ≡ None
  pub edited : IsEdited p lists said
  pub takes : HasTaken p lists said.events run.plain
  pub stands : Stands said.run run.lists
  pub numbered : run.answered ≡ length (answers_of_events p lists said.events)
  pub written : Written (event_lines p lists said.events) run.waiting.lines.items before now

-- A line leaves this reading: a run goes on with it, or the line is bad, and the run stands as before it.
abbrev pub Leaves : Program → List (List Entry) → ℕ → EventReading → EventReading → PlainRun → SinkState → SinkState → Option ℕ → Type 0
Leaves p lists number said next run before now None = Goes p lists next run before now
Leaves p lists number said next run before now (Some code) = (next ≡ with_bad number code said) × Goes p lists said run before now

-- A run of a program with its entries over these lines, of which none is bad; one whose next line is bad by this code; and one that was cut off at its next line.
abbrev pub StandsOver : Program × List (List Entry) → List (ℕ × List ℕ) → PlainRun → SinkState → SinkState → Type 0
StandsOver x lines run before now = Goes x.0 x.1 (events_of x.0 x.1 lines) run before now

abbrev pub StopsOver : Program × List (List Entry) → List (ℕ × List ℕ) → ℕ × List ℕ → ℕ → PlainRun → SinkState → SinkState → Type 0
StopsOver x lines line code run before now = (events_of x.0 x.1 (lines ++ line ∷ []) ≡ with_bad line.0 code (events_of x.0 x.1 lines)) × StandsOver x lines run before now

abbrev pub BreaksOver : Program × List (List Entry) → List (ℕ × List ℕ) → ℕ × List ℕ → SinkState → SinkState → RunFault → Type 0
BreaksOver x lines line before now fault = Cut (event_lines x.0 x.1 (events_of x.0 x.1 (lines ++ line ∷ [])).events) before now fault

-- what was read of a text, and the bad line that ended it, if one did
abbrev pub ended_at : Option Bad → EventReading → EventReading
ended_at bad said = record said { bad = bad_line bad }
