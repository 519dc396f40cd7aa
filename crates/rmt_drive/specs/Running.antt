-- A run of the chip over the lines of a text.
use Rattle.std.specs.Prelude.{◌≡◌, ◌≤◌, ◌⊎◌, ℕ, ◌*◌, IsTrue, List, [], ◌++◌, Option, Some, None, All, is_some, Bool, true}
use Rattle.rmt_io.specs.Outside.{ShelfState, SinkState}
use Rattle.rmt_ast.specs.Changes.{committed}
use Rattle.rmt_config.specs.declared.config.Config.{Config}
use Rattle.rmt_config.specs.declared.cell_write.CellWrite.{CellWrite}
use Rattle.rmt_config.specs.Commits.{AreWrites, Makes, RunState, behind_commit}
use Rattle.rmt_config.specs.Form.{Formed}
use Rattle.rmt_config.specs.Limits.{IsWithinLimits}
use Rattle.rmt_config.specs.RunCells.{RunCells, own_cells}
use Rattle.rmt_config.specs.RunInputs.{Input}
use Rattle.rmt_chip.specs.declared.chip.Chip.{Chip}
use Rattle.rmt_chip.specs.Stands.{entered_of, version_of}
use Rattle.rmt_memory.specs.Writable.{IsTaken}
use Rattle.rmt_packets.specs.declared.line_kind.LineKind.TheVariants as line
use Rattle.rmt_packets.specs.LineKinds.{kind_of}
use Rattle.rmt_packets.specs.PacketText.{BadLine}
use Rattle.rmt_update.specs.BookStands.{BookStands}
use Rattle.rmt_lists.specs.Running.{fresh}
use Rattle.rmt_lists.specs.Stands.{Stands as ListsStand}
use Rattle.rmt_update.specs.declared.book.plan.Plan.{Plan}
use Rattle.rmt_lists.specs.declared.fault.UpdateFault.{UpdateFault}
use Rattle.rmt_lists.specs.declared.fault.UpdateFault.TheVariants.{NoMemory, LoadFull}
use Rattle.rmt_runs.specs.declared.fault.RunFault.{RunFault}
use Rattle.rmt_runs.specs.declared.fault.RunFault.TheVariants as fault
use Rattle.rmt_drive.specs.declared.running.commits.Commits.{Commits}
use Rattle.rmt_drive.specs.declared.running.state.Run.{Run}
use Rattle.rmt_drive.specs.declared.status.Status.TheVariants.{TooLong}
use Rattle.rmt_drive.specs.declared.watch.Watch.{Watch}
use Rattle.rmt_drive.specs.ChipEvents.{Comes, IsRefused, commit_cycles, lists_in, names_in}
use Rattle.rmt_drive.specs.ChipReading.{by_chip, read_by, with_chip_line}
use Rattle.rmt_drive.specs.ChipRuns.{EndsFull, RunsChip}
use Rattle.rmt_drive.specs.ChipText.{lines_of}
use Rattle.rmt_drive.specs.EventText.{EventReading, most_additions, with_bad, with_commit}
use Rattle.rmt_drive.specs.Files.{Files}
use Rattle.rmt_drive.specs.Given.{Given}
use Rattle.rmt_runs.specs.Printing.{GainedFront}
use Rattle.rmt_runs.specs.Cuts.{Cut}
use Rattle.rmt_drive.specs.RunEnd.{ReadsAllBy}
use Rattle.rmt_drive.specs.ChipCycles.{Came, Goes}

-- ---- line by line

-- so many lines bring no more packets, versions and cycles
pub record IsFew (lines : ℕ) (run : Run) (chip : Chip) : Type 0 where
  pub entered : entered_of chip ≤ lines
  pub versions : version_of chip ≤ lines
  pub cycles : run.cycles ≤ lines * 8589934592

-- a run whose lines changed no entry and made no commit yet
abbrev pub IsUnchanged : Config → EventReading → RunState → Type 0
IsUnchanged c said r =
    (r.cells ≡ own_cells c) × (r.entries.lists ≡ lists_in c) × (said.run ≡ fresh (names_in c) (lists_in c) most_additions)

-- what changes entries stands for the cells and the entries of a run, and for what the lines since its last commit change; nothing is made
-- while a run is unchanged
abbrev pub AreCommitsAt : Config → EventReading → RunState → Option Commits → Type 0
AreCommitsAt c said r None = IsUnchanged c said r
AreCommitsAt c said r (Some commits) =
    (c.names ≡ Some (names_in c)) × BookStands c r.cells r.entries.lists commits.book × ListsStand said.run commits.lists

-- a run has come by some lines, of which none was bad
pub record HasCome (c : Config) (said : EventReading) (made : List Input) (r : RunState) (commits : Option Commits) : Type 0 where
  pub formed : Formed c
  pub small : IsWithinLimits c
  pub lines : List (ℕ × List ℕ)
  pub read : read_by c None lines ≡ said
  pub good : said.bad ≡ None
  pub comes : Comes c (names_in c) (lists_in c) said.events made r
  pub knows : AreCommitsAt c said r commits

-- a run with its chip stands for what was read of a text
pub record Follows (watch : Watch) (c : Config) (said : EventReading) (run : Run) (chip : Chip) (commits : Option Commits) (before now : SinkState) : Type 0 where
  pub made : List Input
  pub state : RunState
  pub come : HasCome c said made state commits
  pub goes : Goes watch c made run chip before now

-- a run with its chip stands for something that was read
abbrev pub IsRunning : Run → Chip → Option Commits → SinkState → Type 0
IsRunning run chip commits now = (w : Watch) × (c : Config) × (said : EventReading) × (before : SinkState) × Follows w c said run chip commits before now

-- a line more that no commit of the text refuses
abbrev pub with_text : Config → ℕ → List ℕ → EventReading → EventReading
with_text c number text said = with_chip_line (is_some c.names) None number text (kind_of text) said

-- a commit finds no room
pub record IsFull (c : Config) (text : List ℕ) (said : EventReading) (r : RunState) (code : ℕ) : Type 0 where
  pub code_is : code ≡ 10
  pub named : is_some c.names ≡ true
  pub kind : kind_of text ≡ line.Commit
  pub refused : IsRefused c (names_in c) r said.changes

-- a line is bad, and the run stands as before it
pub record Stopped (watch : Watch) (c : Config) (number : ℕ) (text : List ℕ) (said : EventReading) (code : ℕ) (run : Run) (chip : Chip) (before now : SinkState) : Type 0 where
  pub made : List Input
  pub state : RunState
  pub comes : Comes c (names_in c) (lists_in c) said.events made state
  pub goes : Goes watch c made run chip before now
  pub bad : (with_text c number text said ≡ with_bad number code said) ⊎ IsFull c text said state code

-- a plan of the commit that a run has come to, and what changes entries stands for the entries and cells behind it
pub record IsPlannedAt (c : Config) (said : EventReading) (r : RunState) (plan : Plan) (commits : Commits) : Type 0 where
  pub next : RunCells
  pub makes : Makes c (names_in c) r.cells r.entries.lists (committed r.entries said.changes).lists plan.moved plan.seed next
  pub writes : AreWrites c r.cells next plan.writes.items
  pub taken : All (IsTaken c.stages) plan.writes.items
  pub knows : AreCommitsAt c (with_commit said) (behind_commit r said.changes plan.moved plan.seed plan.writes.items next) (Some commits)

-- why there is none
abbrev pub IsUnplannedAt : Config → EventReading → RunState → UpdateFault → Type 0
IsUnplannedAt c said r NoMemory = Unit {0}
IsUnplannedAt c said r (LoadFull node members count) = IsRefused c (names_in c) r said.changes

-- what a line leaves: a run that goes on with it, or its code
abbrev pub Leaves : Watch → Config → ℕ → List ℕ → EventReading → Run → Chip → Option Commits → SinkState → SinkState → Option ℕ → Type 0
Leaves watch c number text said run chip commits before now None = Follows watch c (with_text c number text said) run chip commits before now
Leaves watch c number text said run chip commits before now (Some code) = Stopped watch c number text said code run chip before now

-- ---- a run that breaks off

-- the inputs behind which a run broke off at a line: those before it, those with its packet, or those with some of the cycles of its commit
pub data BreaksAt (c : Config) (number : ℕ) (text : List ℕ) (said : EventReading) : List Input → Type 0 where
  ahead : (made : List Input) (r : RunState) → Comes c (names_in c) (lists_in c) said.events made r → BreaksAt c number text said made
  behind : (made : List Input) (r : RunState) → (with_text c number text said).bad ≡ None
      → Comes c (names_in c) (lists_in c) (with_text c number text said).events made r → BreaksAt c number text said made
  amid : (made : List Input) (r : RunState) (moved : Bool) (seed : ℕ) (next : RunCells) (writes : List CellWrite) (part rest : List Input)
      → is_some c.names ≡ true → kind_of text ≡ line.Commit → Comes c (names_in c) (lists_in c) said.events made r
      → Makes c (names_in c) r.cells r.entries.lists (committed r.entries said.changes).lists moved seed next → AreWrites c r.cells next writes
      → commit_cycles r moved seed writes ≡ part ++ rest → BreaksAt c number text said (made ++ part)

-- a run broke off at a line, and printed a front of the lines of its cycles
pub record LeftOff (watch : Watch) (c : Config) (number : ℕ) (text : List ℕ) (said : EventReading) (before now : SinkState) (f : RunFault) : Type 0 where
  pub made : List Input
  pub at : BreaksAt c number text said made
  pub cut : Cut (lines_of watch c made) before now f

-- A run over a text ended early: it printed a front of what a run over the text gives, a fault of the sink comes only where that is something, and TooLong only where
-- it ends so.
pub record BreaksRun (watch : Watch) (files : Files) (c : Config) (limit : ℕ) (text : List ℕ) (before now : SinkState) (f : RunFault) : Type 0 where
  pub given : Given
  pub runs : RunsChip watch files c limit text given
  pub front : GainedFront before now given.text
  pub some : f ≡ fault.Write → given.text ≡ [] → ⊥
  pub long : f ≡ fault.TooLong → given.status ≡ TooLong

-- A run with its chip over these lines, of which none is bad; one whose next line is bad by this code; and one that was cut off at its next line.
abbrev pub StandsOver : Watch × Config → List (ℕ × List ℕ) → Run → Chip → Option Commits → SinkState → SinkState → Type 0
StandsOver x lines run chip commits before now = Follows x.0 x.1 (read_by x.1 None lines) run chip commits before now

abbrev pub StopsOver : Watch × Config → List (ℕ × List ℕ) → ℕ × List ℕ → ℕ → Run → Chip → SinkState → SinkState → Type 0
StopsOver x lines line code run chip before now = ((read_by x.1 None lines).bad ≡ None) × Stopped x.0 x.1 line.0 line.1 (read_by x.1 None lines) code run chip before now

abbrev pub BreaksOver : Watch × Config → List (ℕ × List ℕ) → ℕ × List ℕ → SinkState → SinkState → RunFault → Type 0
BreaksOver x lines line before now f = ((read_by x.1 None lines).bad ≡ None) × LeftOff x.0 x.1 line.0 line.1 (read_by x.1 None lines) before now f

-- the lines of the open file taken, up to its end or its first bad line; what they are is known where the shelf tells its files
pub record Taken (watch : Watch) (c : Config) (limit : ℕ) (shelf : ShelfState) (bad : Option BadLine) (run : Run) (chip : Chip) (before now : SinkState) : Type 0 where
  pub full : Option ℕ
  pub said : EventReading
  pub made : List Input
  pub state : RunState
  pub came : Came watch c said.events made state run chip before now
  pub ends : EndsFull c state said full
  pub bad_is : said.bad ≡ bad
  pub reads : IsTrue shelf.tells → ReadsAllBy (by_chip c full) limit shelf.rest said
