-- What the answers to several commands have to do with one another.
use Rattle.std.specs.Prelude.{◌≡◌, ◌≢◌, ◌≤◌, ◌<◌, ◌⊎◌, ◌↔◌, ℕ, List, None, Option, Some, Ok, ◌++◌, codes, length, true}
use Rattle.rmt_core.specs.Types.{Program, Config}
use Rattle.rmt_ast.specs.declared.entry.Entry.{Entry}
use Rattle.rmt_bits.specs.Lines.{numbered_lines}
use Rattle.rmt_bounds.specs.declared.bound.Bound.{Bound}
use Rattle.rmt_config.specs.Commits.{RunState}
use Rattle.rmt_config.specs.RunInputs.{Input}
use Rattle.rmt_config.specs.Spells.{Spells}
use Rattle.rmt_image.specs.Reading.{Answers}
use Rattle.rmt_pack.specs.declared.placement.Part.{Part}
use Rattle.rmt_check.specs.Means.{Means}
use Rattle.rmt_entries.specs.Entries.{entries_of}
use Rattle.rmt_pcap.specs.declared.capture.Capture.{Capture}
use Rattle.rmt_pcap.specs.Captures.{capture_of}
use Rattle.rmt_switch.specs.GroupText.{groups_of}
use Rattle.rmt_verify.specs.Spells.{Spells as SpellsMap}
use Rattle.rmt_verify.specs.declared.map_file.MapFile.{MapFile}
use Rattle.rmt_build.specs.declared.fault.NoFit.{NoFit}
use Rattle.rmt_build.specs.declared.fault.NoFit.TheVariants.{Load}
use Rattle.rmt_build.specs.Loads.{IsFull}
use Rattle.rmt_core.specs.declared.placer.Placer.{Placer}
use Rattle.rmt_core.specs.declared.placer.Placer.TheVariants.{ByRule, ByTries}
use Rattle.rmt_drive.specs.declared.status.Status.{Status}
use Rattle.rmt_drive.specs.declared.status.Status.TheVariants.{Done, ReadFault, NoMemory}
use Rattle.rmt_core.specs.Commands.{Command, Compile, CompileMap, Improve, Sim, Probe, Plain, Report, Sample, Switch, Verify}
use Rattle.rmt_drive.specs.ChipEvents.{Comes, lists_in, names_in}
use Rattle.rmt_drive.specs.ChipReading.{read_by}
use Rattle.rmt_drive.specs.ChipRuns.{EndsFull, has_moved, told_of}
use Rattle.rmt_core.specs.CompileText.{compile_text}
use Rattle.rmt_drive.specs.EventText.{events_of}
use Rattle.rmt_drive.specs.Ends.{Answered, AreSame, Outside}
use Rattle.rmt_drive.specs.Files.{Files, capture_limit, entries_limit, groups_limit, image_limit, map_limit, packets_limit, program_limit}
use Rattle.rmt_drive.specs.Given.{Given}
use Rattle.rmt_core.specs.Gives.{Gives}
use Rattle.rmt_core.specs.NoFitText.{no_fit_line}
use Rattle.rmt_core.specs.Placers.{IsPlacedBy, refusal_by}
use Rattle.rmt_sample.specs.Meaning.{AreOfSample}
use Rattle.rmt_drive.specs.SimText.{cycles_line, flight_line}

-- a command that writes an image of these texts, and no map over it
pub data WritesImage (program entries image : List ℕ) : Command → Type 0 where
  by_compile : WritesImage program entries image (Compile program entries image)
  by_compile_map : (map : List ℕ) → map ≢ image → WritesImage program entries image (CompileMap program entries image map)
  by_improve : (budget : ℕ) → WritesImage program entries image (Improve program entries image budget)

-- After Done of `compile` or `improve`, and over files in which its image stands, `sim` of that image with Done prints
-- what `plain` of the program and entries prints for the same packets and commits, and then its cycles and its flight.
abbrev pub SimPrintsPlain : Type 0
SimPrintsPlain =
    (command : Command) (files later : Files) (program entries image packets : List ℕ) (made simulated run : Given)
    → WritesImage program entries image command → Gives files command made → made.status ≡ Done
    → later image ≡ made.files image → later program ≡ files program → later entries ≡ files entries
    → Gives later (Sim image packets) simulated → simulated.status ≡ Done
    → Gives later (Plain program entries packets) run
    → (run.status ≡ Done) × (cycles : ℕ) × (flight : ℕ) × (simulated.text ≡ run.text ++ (cycles_line cycles ++ flight_line flight))

-- the same text, or the lines of one table that doesn't load, with other numbers
pub record OtherNumbers (a b : List ℕ) : Type 0 where
  pub program : Program
  pub node : ℕ
  pub members : ℕ
  pub cells : ℕ
  pub others : ℕ
  pub few : ℕ
  pub first : a ≡ no_fit_line program (Load node members cells)
  pub second : b ≡ no_fit_line program (Load node others few)

-- some run over a packet text has a commit that moves cells
pub record HasMovingCommit (files : Files) (image packets : List ℕ) : Type 0 where
  pub bytes : List ℕ
  pub config : Config
  pub text : List ℕ
  pub full : Option ℕ
  pub made : List Input
  pub state : RunState
  pub has_bytes : files image ≡ Some bytes
  pub answers : Answers bytes (Ok config)
  pub has_text : files packets ≡ Some text
  pub comes : Comes config (names_in config) (lists_in config) (told_of config full packets_limit text).events made state
  pub moved : has_moved config (names_in config) (lists_in config) (told_of config full packets_limit text).events made state comes ≡ true

-- the command runs one in the chip
abbrev pub MovesCells : Files → Command → Type 0
MovesCells files (Sim image packets) = HasMovingCommit files image packets
MovesCells files (Probe image packets cycle) = HasMovingCommit files image packets
MovesCells files (Compile program entries image) = ⊥
MovesCells files (CompileMap program entries image map) = ⊥
MovesCells files (Improve program entries image budget) = ⊥
MovesCells files (Plain program entries packets) = ⊥
MovesCells files (Report image) = ⊥
MovesCells files (Sample number) = ⊥
MovesCells files (Switch image groups capture out every) = ⊥
MovesCells files (Verify program entries image map) = ⊥

-- A command gives one status over the same files, and one text but for the numbers of a table that doesn't load; where a commit moves cells
-- its loading is free, and the text of the run may hang on it.
abbrev pub GivesOne : Type 0
GivesOne =
    (files : Files) (command : Command) (g h : Given) → Gives files command g → Gives files command h
    → (g.status ≡ h.status) × ((g.text ≡ h.text) ⊎ OtherNumbers g.text h.text ⊎ MovesCells files command)

-- with a map `compile` gives what it gives without one, and all files but the map stand as then
pub record GivesBeside (files : Files) (program entries image map : List ℕ) (g : Given) : Type 0 where
  pub alone : Given
  pub is_given : Gives files (Compile program entries image) alone
  pub status : g.status ≡ alone.status
  pub text : g.text ≡ alone.text
  pub others : (name : List ℕ) → name ≢ map → g.files name ≡ alone.files name

abbrev pub MapIsBeside : Type 0
MapIsBeside =
    (files : Files) (program entries image map : List ℕ) (g : Given) → Gives files (CompileMap program entries image map) g → GivesBeside files program entries image map g

-- with one try `improve` gives what `compile` gives
abbrev pub OneTryIsCompile : Type 0
OneTryIsCompile =
    (files : Files) (program entries image : List ℕ) (g : Given)
    → Gives files (Improve program entries image 1) g ↔ Gives files (Compile program entries image) g

-- After Done of `compile` and of `improve` of the same texts both print one bound, and `improve` has no more stages.
pub record PrintNoMoreStages (first second : List ℕ) : Type 0 where
  pub program : Program
  pub config : Config
  pub other : Config
  pub bound : Bound
  pub first_is : first ≡ compile_text program config bound
  pub second_is : second ≡ compile_text program other bound
  pub no_more : length other.stages ≤ length config.stages

abbrev pub ImproveHasNoMoreStages : Type 0
ImproveHasNoMoreStages =
    (files : Files) (program entries image other : List ℕ) (budget : ℕ) (made improved : Given)
    → Gives files (Compile program entries image) made → made.status ≡ Done
    → Gives files (Improve program entries other budget) improved → improved.status ≡ Done
    → PrintNoMoreStages made.text improved.text

-- what `improve` refuses before the entries are loaded is refused by the rule, and in the same words
abbrev pub RefusesAsCompile : Type 0
RefusesAsCompile =
    (budget : ℕ) (p : Program) (fault : NoFit) → refusal_by (ByTries budget) p ≡ Some fault → refusal_by ByRule p ≡ Some fault

-- ---- when a command gives Done

-- a file that is there, within a limit
pub record IsWithin (files : Files) (name : List ℕ) (limit : ℕ) (bytes : List ℕ) : Type 0 where
  pub is_there : files name ≡ Some bytes
  pub is_short : length bytes ≤ limit

-- two texts that mean a program and its entries
pub record MeanBoth (files : Files) (program entries : List ℕ) (p : Program) (lists : List (List Entry)) : Type 0 where
  pub text : List ℕ
  pub entry_text : List ℕ
  pub has_text : IsWithin files program program_limit text
  pub has_entries : IsWithin files entries entries_limit entry_text
  pub means : Means text (Ok p)
  pub says : entries_of p entry_text ≡ Ok lists

-- no refusal comes, and under some seed of 0 to 7 no exact table has entries that have fewer cells than they are
pub record Fits (placer : Placer) (p : Program) (lists : List (List Entry)) : Type 0 where
  pub parts : List Part
  pub seed : ℕ
  pub no_refusal : refusal_by placer p ≡ None
  pub placed : IsPlacedBy placer p parts
  pub few : seed < 8
  pub never_full : (node members cells : ℕ) → IsFull p lists parts seed node members cells → ⊥

-- a packet text without a bad line, which may change the entries of a program
pub record IsGoodRun (p : Program) (lists : List (List Entry)) (files : Files) (name : List ℕ) : Type 0 where
  pub text : List ℕ
  pub has_text : IsWithin files name packets_limit text
  pub is_good : (events_of p lists (numbered_lines 1 text)).bad ≡ None

-- a group text without a bad line
pub record AreGoodGroups (files : Files) (name : List ℕ) : Type 0 where
  pub text : List ℕ
  pub ports : List (List ℕ)
  pub has_text : IsWithin files name groups_limit text
  pub says : groups_of text ≡ Ok ports

-- a capture file without a fault
pub record IsGoodCapture (files : Files) (name : List ℕ) : Type 0 where
  pub file : List ℕ
  pub said : Capture
  pub has_file : IsWithin files name capture_limit file
  pub says : capture_of file ≡ Ok said

-- the image of a configuration
pub record IsImage (files : Files) (name : List ℕ) : Type 0 where
  pub bytes : List ℕ
  pub config : Config
  pub has_bytes : IsWithin files name image_limit bytes
  pub spells : Spells bytes config

-- The image of a configuration, and a packet text that has no bad line for it: each change can be made where it stands, and each commit finds room.
pub record IsGoodChipRun (files : Files) (image packets : List ℕ) : Type 0 where
  pub is_image : IsImage files image
  pub text : List ℕ
  pub has_text : IsWithin files packets packets_limit text
  pub is_good : (read_by is_image.config None (numbered_lines 1 text)).bad ≡ None
  pub has_room : (before : ℕ) (made : List Input) (r : RunState)
      → Comes is_image.config (names_in is_image.config) (lists_in is_image.config) (read_by is_image.config (Some before) (numbered_lines 1 text)).events made r
      → EndsFull is_image.config r (read_by is_image.config (Some before) (numbered_lines 1 text)) (Some before) → ⊥

-- the bytes of a map
pub record IsMapFile (files : Files) (name : List ℕ) : Type 0 where
  pub bytes : List ℕ
  pub map : MapFile
  pub has_bytes : IsWithin files name map_limit bytes
  pub spells : SpellsMap bytes map

-- two texts of which an image can be made
abbrev pub CanBeMade : Placer → Files → List ℕ → List ℕ → Type 0
CanBeMade placer files program entries =
    (p : Program) × (lists : List (List Entry)) × MeanBoth files program entries p lists × Fits placer p lists

-- what files must be that a command gives Done
abbrev pub IsReady : Files → Command → Type 0
IsReady files (Compile program entries image) = CanBeMade ByRule files program entries
IsReady files (CompileMap program entries image map) = CanBeMade ByRule files program entries
IsReady files (Improve program entries image budget) = CanBeMade (ByTries budget) files program entries
IsReady files (Sim image packets) = IsGoodChipRun files image packets
IsReady files (Probe image packets cycle) = IsGoodChipRun files image packets
IsReady files (Plain program entries packets) = (p : Program) × (lists : List (List Entry)) × MeanBoth files program entries p lists × IsGoodRun p lists files packets
IsReady files (Report image) = IsImage files image
IsReady files (Switch image groups capture out every) = IsImage files image × AreGoodGroups files groups × IsGoodCapture files capture
IsReady files (Verify program entries image map) = (p : Program) × (lists : List (List Entry)) × MeanBoth files program entries p lists × IsImage files image × IsMapFile files map
IsReady files (Sample number) = (p : Program) × (lists : List (List Entry)) × AreOfSample number p lists × Fits ByRule p lists

abbrev pub IsComplete : Type 0
IsComplete = (files : Files) (command : Command) (g : Given) → IsReady files command → Gives files command g → g.status ≡ Done

-- ---- when all files are left as they are

-- the command writes more than one file
abbrev pub WritesSeveral : Command → Type 0
WritesSeveral (CompileMap program entries image map) = Unit {0}
WritesSeveral (Switch image groups capture out every) = Unit {0}
WritesSeveral _ = ⊥

-- any other one that ends for want of memory, or by a fault of reading, leaves all files as they are
abbrev pub LeavesFiles : Type 0
LeavesFiles =
    (before after : Outside) (command : Command) → (WritesSeveral command → ⊥) → (status : Status) → (status ≡ ReadFault) ⊎ (status ≡ NoMemory)
    → Answered before after (Gives before.shelf.files command) status → AreSame after.shelf.files before.shelf.files

-- ---- when something is given

-- the commands that look for a configuration
abbrev pub IsBuilding : Command → Type 0
IsBuilding (Compile program entries image) = Unit {0}
IsBuilding (CompileMap program entries image map) = Unit {0}
IsBuilding (Improve program entries image budget) = Unit {0}
IsBuilding (Sample number) = Unit {0}
IsBuilding _ = ⊥

-- the command that checks one against a program
abbrev pub IsChecking : Command → Type 0
IsChecking (Verify program entries image map) = Unit {0}
IsChecking _ = ⊥

-- each other command gives something
abbrev pub GivesAlways : Type 0
GivesAlways = (files : Files) (command : Command) → (IsBuilding command → ⊥) → (IsChecking command → ⊥) → (g : Given) × Gives files command g

-- and of that one it can't be that it gives nothing
abbrev pub GivesNeverNothing : Type 0
GivesNeverNothing = (files : Files) (command : Command) → (IsBuilding command → ⊥) → ((g : Given) → Gives files command g → ⊥) → ⊥

-- ---- when `verify` says yes

-- After Done of `compile` with a map, and over files in which its image and its map stand beside the same two texts, `verify` of them
-- gives Done and prints `yes`.
abbrev pub VerifiesCompiled : Type 0
VerifiesCompiled =
    (files later : Files) (program entries image map : List ℕ) (made verified : Given)
    → map ≢ image → Gives files (CompileMap program entries image map) made → made.status ≡ Done
    → later image ≡ made.files image → later map ≡ made.files map → later program ≡ files program → later entries ≡ files entries
    → Gives later (Verify program entries image map) verified → (verified.status ≡ Done) × (verified.text ≡ codes "yes\n")
