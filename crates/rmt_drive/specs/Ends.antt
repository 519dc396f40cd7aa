-- How a call of a command ends, by what the command gives and what befell outside.
use Rattle.std.specs.Prelude.{◌≡◌, ◌≢◌, ◌⊎◌, ℕ, IsTrue, List, [], ◌∷◌, ◌++◌}
use Rattle.std.specs.List.{All}
use Rattle.rmt_io.specs.Outside.{ShelfState, SinkState, Gained, GainedNone, OnlyPrinted, OnlyRead, PrintingFailed, ReadingFailed, WritingFailed}
use Rattle.rmt_drive.specs.declared.status.Status.{Status}
use Rattle.rmt_drive.specs.declared.status.Status.TheVariants.{Done, Usage, ReadFault, WriteFault, BadProgram, BadEntries, NoFit, BadImage, BadPackets, TooLong, NoMemory}
use Rattle.rmt_drive.specs.Files.{Files, Write, all_written}
use Rattle.rmt_drive.specs.Given.{Given}
use Rattle.rmt_runs.specs.Printing.{GainedFront}

-- what is seen of the outside at once: a shelf and a sink
pub record Outside : Type 0 where
  pub shelf : ShelfState
  pub sink : SinkState

abbrev pub outside : ShelfState → SinkState → Outside
outside shelf sink = record { shelf = shelf; sink = sink }

-- files are the same, name by name
abbrev pub AreSame : Files → Files → Type 0
AreSame files others = (name : List ℕ) → files name ≡ others name

-- Of files that were to be written in this order those before one stand whole, nothing is told of that one, and all others are as before.
pub record BrokenOff (before after : Files) (writes : List Write) : Type 0 where
  pub done : List Write
  pub failed : Write
  pub rest : List Write
  pub writes_are : writes ≡ done ++ (failed ∷ rest)
  pub others : (name : List ℕ) → name ≢ failed.name → after name ≡ all_written before done name

-- Of files that were to be written in this order the first stand whole, some but not all, and all others are as before.
pub record CutShort (before after : Files) (writes : List Write) : Type 0 where
  pub first : Write
  pub done : List Write
  pub next : Write
  pub rest : List Write
  pub writes_are : writes ≡ (first ∷ done) ++ (next ∷ rest)
  pub files : AreSame after (all_written before (first ∷ done))

-- with these the whole text is printed
abbrev pub PrintsAll : Status → Type 0
PrintsAll status = (status ≡ Done) ⊎ (status ≡ BadProgram) ⊎ (status ≡ BadEntries) ⊎ (status ≡ NoFit) ⊎ (status ≡ BadImage) ⊎ (status ≡ BadPackets)

-- a file was not written, and nothing was printed
pub record FileFailed (before after : Outside) (g : Given) : Type 0 where
  pub counted : WritingFailed before.shelf after.shelf
  pub quiet : GainedNone before.sink after.sink
  pub files : BrokenOff before.shelf.files after.shelf.files g.writes

-- the sink failed, when all files were written
pub record SinkFailed (before after : Outside) (g : Given) : Type 0 where
  pub counted : PrintingFailed before.sink after.sink
  pub files : AreSame after.shelf.files g.files

-- Where a command gives this, a call ends with its status, or with WriteFault. A sink gained a front of its text, and all of it with its status but for TooLong.
-- With its status its files stand; they stand too where the sink failed. All files but those that it writes stay as they were.
pub record Ends (before after : Outside) (g : Given) (status : Status) : Type 0 where
  pub status_is : (status ≡ g.status) ⊎ (status ≡ WriteFault)
  pub front : GainedFront before.sink after.sink g.text
  pub whole : status ≡ g.status → PrintsAll status → Gained before.sink after.sink g.text
  pub files : status ≡ g.status → AreSame after.shelf.files g.files
  pub others : (name : List ℕ) → All (λ (w : Write). w.name ≢ name) g.writes → after.shelf.files name ≡ before.shelf.files name
  pub fault : status ≡ WriteFault → FileFailed before after g ⊎ SinkFailed before after g
  pub some : status ≡ WriteFault → g.text ≢ []

-- memory was wanting between two files that a command writes
pub record StoppedBetween (before after : Outside) (gives : Given → Type 0) (status : Status) : Type 0 where
  pub memory : status ≡ NoMemory
  pub given : Given
  pub is_given : gives given
  pub files : CutShort before.shelf.files after.shelf.files given.writes

-- A call that ends for want of memory, or by a fault of reading, leaves the files as they are, but between two files that a command writes; what a sink gained is a
-- front of a text that they give, where they give any. Over a steady shelf it ends by a fault of reading only where the files give that.
pub record Stops (before after : Outside) (gives : Given → Type 0) (status : Status) : Type 0 where
  pub files : AreSame after.shelf.files before.shelf.files ⊎ StoppedBetween before after gives status
  pub front : (g : Given) → gives g → (h : Given) × gives h × GainedFront before.sink after.sink h.text
  pub steady : IsTrue before.shelf.steady → status ≡ ReadFault → (g : Given) × gives g × (g.status ≡ ReadFault)

-- a call of a command that gives something
abbrev pub EndsWith : Outside → Outside → (Given → Type 0) → Status → Type 0
EndsWith before after gives status = (g : Given) × gives g × Ends before after g status

-- a call of a command, by its status
abbrev pub Answered : Outside → Outside → (Given → Type 0) → Status → Type 0
Answered before after gives Done = EndsWith before after gives Done
Answered before after gives Usage = ⊥
Answered before after gives ReadFault = Stops before after gives ReadFault
Answered before after gives WriteFault = EndsWith before after gives WriteFault
Answered before after gives BadProgram = EndsWith before after gives BadProgram
Answered before after gives BadEntries = EndsWith before after gives BadEntries
Answered before after gives NoFit = EndsWith before after gives NoFit
Answered before after gives BadImage = EndsWith before after gives BadImage
Answered before after gives BadPackets = EndsWith before after gives BadPackets
Answered before after gives TooLong = EndsWith before after gives TooLong
Answered before after gives NoMemory = Stops before after gives NoMemory

-- What befalls outside in a run that reads and prints: a fault comes only where a count rose, none of reading over a steady shelf; and all else outside stays.
pub record Befalls (before after : Outside) (status : Status) : Type 0 where
  pub read_fault : status ≡ ReadFault → ReadingFailed before.shelf after.shelf
  pub never_fails : status ≡ ReadFault → IsTrue before.shelf.steady → ⊥
  pub write_fault : status ≡ WriteFault → PrintingFailed before.sink after.sink
  pub only_read : OnlyRead before.shelf after.shelf
  pub only_printed : OnlyPrinted before.sink after.sink

-- A call of a command that writes no file: over a shelf that tells its files it ends as the command gives it; a fault of the outside comes only where a count
-- rose; and all else outside stays.
pub record ReadsAndPrints (before after : Outside) (gives : Files → Given → Type 0) (status : Status) : Type 0 where
  pub answered : IsTrue before.shelf.tells → Answered before after (gives before.shelf.files) status
  pub read_fault : status ≡ ReadFault → ReadingFailed before.shelf after.shelf
  pub write_fault : status ≡ WriteFault → PrintingFailed before.sink after.sink
  pub only_read : OnlyRead before.shelf after.shelf
  pub only_printed : OnlyPrinted before.sink after.sink

-- A call of a command that may write files, and prints behind them: the same, and it printed nothing where it ends for want of memory, by a fault of reading or
-- of a file, or with a file that is too long. A steady shelf has no fault of writing.
pub record WritesAndPrints (before after : Outside) (gives : Files → Given → Type 0) (status : Status) : Type 0 where
  pub answered : IsTrue before.shelf.tells → Answered before after (gives before.shelf.files) status
  pub quiet : (status ≡ NoMemory) ⊎ (status ≡ ReadFault) ⊎ (status ≡ TooLong) → GainedNone before.sink after.sink
  pub read_fault : status ≡ ReadFault → ReadingFailed before.shelf after.shelf
  pub write_fault : status ≡ WriteFault → (WritingFailed before.shelf after.shelf × GainedNone before.sink after.sink) ⊎ PrintingFailed before.sink after.sink
  pub steady_write : status ≡ WriteFault → IsTrue before.shelf.steady → PrintingFailed before.sink after.sink
  pub tells : after.shelf.tells ≡ before.shelf.tells
  pub only_printed : OnlyPrinted before.sink after.sink

-- the answers that come of the outside or of want of memory
abbrev pub IsOfOutside : Status → Type 0
IsOfOutside status = (status ≡ NoMemory) ⊎ (status ≡ ReadFault) ⊎ (status ≡ WriteFault)

-- and those of a run over a packet text
abbrev pub IsRunStatus : Status → Type 0
IsRunStatus status = (status ≡ Done) ⊎ (status ≡ BadPackets) ⊎ (status ≡ TooLong) ⊎ IsOfOutside status
