-- Which files a command reads, and when one of them is absent.
use Rattle.std.specs.Prelude.{◌≡◌, ◌↔◌, ℕ, Bool, true, false, IsTrue, List, [], ◌∷◌, Option, Some, None}
use Rattle.rmt_drive.specs.declared.status.Status.TheVariants.{ReadFault}
use Rattle.rmt_core.specs.Commands.{Command, Compile, CompileMap, Improve, Sim, Probe, Plain, Report, Sample, Switch, Verify}
use Rattle.rmt_drive.specs.Ends.{Answered, Outside}
use Rattle.rmt_drive.specs.Files.{Files, Found, Absent, Long, Holds, capture_limit, entries_limit, found, groups_limit, image_limit, map_limit, program_limit}
use Rattle.rmt_drive.specs.Given.{Given}
use Rattle.rmt_core.specs.Gives.{Gives}

-- a file that is read, and how many bytes it may have, where there is a limit
pub record FileRead : Type 0 where
  pub name : List ℕ
  pub limit : Option ℕ

-- of so many bytes, or opened, whatever its length
abbrev pub within : List ℕ → ℕ → FileRead
within name limit = record { name = name; limit = Some limit }

abbrev pub opened : List ℕ → FileRead
opened name = record { name = name; limit = None }

-- the files that a command reads, in their order
abbrev pub files_read : Command → List FileRead
files_read (Compile program entries image) = within program program_limit ∷ within entries entries_limit ∷ []
files_read (CompileMap program entries image map) = within program program_limit ∷ within entries entries_limit ∷ []
files_read (Improve program entries image budget) = within program program_limit ∷ within entries entries_limit ∷ []
files_read (Sim image packets) = within image image_limit ∷ opened packets ∷ []
files_read (Probe image packets cycle) = within image image_limit ∷ opened packets ∷ []
files_read (Plain program entries packets) = within program program_limit ∷ within entries entries_limit ∷ opened packets ∷ []
files_read (Report image) = within image image_limit ∷ []
files_read (Sample number) = []
files_read (Switch image groups capture out every) = within image image_limit ∷ within groups groups_limit ∷ within capture capture_limit ∷ []
files_read (Verify program entries image map) =
    within program program_limit ∷ within entries entries_limit ∷ within image image_limit ∷ within map map_limit ∷ []

-- what is found of a file
abbrev pub found_of : Option ℕ → Option (List ℕ) → Found
found_of (Some limit) file = found limit file
found_of None None = Absent
found_of None (Some bytes) = Holds bytes

-- a file is absent, or it can be read, and then so is one behind it
abbrev pub lacks_with : Bool → Found → Bool
lacks_with behind Absent = true
lacks_with behind Long = false
lacks_with behind (Holds bytes) = behind

-- one of some files is absent, and each before it is there, within its limit
abbrev pub lacks_one : Files → List FileRead → Bool
lacks_one files [] = false
lacks_one files (f ∷ fs) = lacks_with (lacks_one files fs) (found_of f.limit (files f.name))

-- a command gives ReadFault exactly where a file that it reads is absent, and each before it can be read
abbrev pub ReadFaultIsAbsence : Type 0
ReadFaultIsAbsence = (files : Files) (command : Command) (g : Given) → Gives files command g → (g.status ≡ ReadFault) ↔ (lacks_one files (files_read command) ≡ true)

-- over a steady shelf a call ends so only there
abbrev pub SteadyFaultIsAbsence : Type 0
SteadyFaultIsAbsence =
    (before after : Outside) (command : Command) → IsTrue before.shelf.steady → Answered before after (Gives before.shelf.files command) ReadFault
    → lacks_one before.shelf.files (files_read command) ≡ true
