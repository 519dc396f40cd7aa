-- The words of a command line.
use Rattle.std.specs.Prelude.{◌≡◌, ◌⊎◌, ℕ, Bool, List, [], ◌∷◌, ◌&&◌, Option, Some, None, option_map, nat_le, length, map, codes, if◌then◌else◌, string_bytes, String}
use Rattle.std.specs.List.{list_all}
use Rattle.std.specs.Str.{bytes_eq}
use Rattle.std.specs.Global.{Global}
use Rattle.rmt_bits.specs.Digits.{is_digit, number_of_digits}
use Rattle.rmt_drive.specs.declared.status.Status.{Status}
use Rattle.rmt_drive.specs.declared.status.Status.TheVariants.{Done, WriteFault, BadProgram, BadEntries, NoFit, BadImage, BadPackets, TooLong, NoMemory}
use Rattle.rmt_drive.specs.Ends.{IsOfOutside}

-- a command, with the names of its files; `sample` reads none
pub data Command : Type 0 where
  Compile : (program entries image : List ℕ) → Command
  CompileMap : (program entries image map : List ℕ) → Command
  Improve : (program entries image : List ℕ) (budget : ℕ) → Command
  Sim : (image packets : List ℕ) → Command
  Probe : (image packets : List ℕ) (cycle : ℕ) → Command
  Plain : (program entries packets : List ℕ) → Command
  Report : (image : List ℕ) → Command
  Sample : (number : ℕ) → Command
  Switch : (image groups capture out : List ℕ) (every : ℕ) → Command
  Verify : (program entries image map : List ℕ) → Command

-- decimal digits, at least one and at most so many
abbrev pub is_number : ℕ → List ℕ → Bool
is_number most word = nat_le 1 (length word) && nat_le (length word) most && list_all is_digit word

-- the cycle that 1 to 9 decimal digits say
abbrev pub cycle_of : List ℕ → Option ℕ
cycle_of word = if is_number 9 word then Some (number_of_digits 10 word) else None

-- a number from 1 to 100,000
abbrev pub is_sample_number : ℕ → Bool
is_sample_number n = nat_le 1 n && nat_le n 100000

-- the number that 1 to 6 decimal digits say, from 1 to 100,000
abbrev pub sample_number_of : List ℕ → Option ℕ
sample_number_of word = if is_number 6 word && is_sample_number (number_of_digits 10 word) then Some (number_of_digits 10 word) else None

-- a number of tries, from 1 to 1,000
abbrev pub is_budget : ℕ → Bool
is_budget n = nat_le 1 n && nat_le n 1000

-- the budget that 1 to 4 decimal digits say
abbrev pub budget_of : List ℕ → Option ℕ
budget_of word = if is_number 4 word && is_budget (number_of_digits 10 word) then Some (number_of_digits 10 word) else None

-- a compile command with a map, where image and map are not one word
abbrev pub compile_of : List ℕ → List ℕ → List ℕ → List ℕ → Option Command
compile_of program entries image map = if bytes_eq image map then None else Some (CompileMap program entries image map)

-- a probe command, where its last word is a cycle
abbrev pub probe_of : List ℕ → List ℕ → Option ℕ → Option Command
probe_of image packets cycle = option_map (λ n. Probe image packets n) cycle

-- an improve command, where its last word is a budget
abbrev pub improve_of : List ℕ → List ℕ → List ℕ → Option ℕ → Option Command
improve_of program entries image budget = option_map (λ n. Improve program entries image n) budget

-- a number of cycles, from 1 to 999,999
abbrev pub is_every : ℕ → Bool
is_every n = nat_le 1 n && nat_le n 999999

-- the number of cycles that 1 to 6 decimal digits say, at least 1
abbrev pub every_of : List ℕ → Option ℕ
every_of word = if is_number 6 word && is_every (number_of_digits 10 word) then Some (number_of_digits 10 word) else None

-- a switch command, where its last word is a number of cycles
abbrev pub switch_of : List ℕ → List ℕ → List ℕ → List ℕ → Option ℕ → Option Command
switch_of image groups capture out every = option_map (λ n. Switch image groups capture out n) every

-- the command of a word with five words behind it
abbrev pub with_five : List ℕ → List ℕ → List ℕ → List ℕ → List ℕ → List ℕ → Option Command
with_five word first second third fourth fifth =
    if bytes_eq word (codes "switch") then switch_of first second third fourth (every_of fifth) else None

-- the command of a word with four words behind it
abbrev pub with_four : List ℕ → List ℕ → List ℕ → List ℕ → List ℕ → Option Command
with_four word first second third fourth =
    if bytes_eq word (codes "compile") then compile_of first second third fourth
    else (if bytes_eq word (codes "improve") then improve_of first second third (budget_of fourth)
    else (if bytes_eq word (codes "verify") then Some (Verify first second third fourth) else None))

-- the command of a word with three words behind it
abbrev pub with_three : List ℕ → List ℕ → List ℕ → List ℕ → Option Command
with_three word first second third =
    if bytes_eq word (codes "compile") then Some (Compile first second third)
    else (if bytes_eq word (codes "plain") then Some (Plain first second third)
    else (if bytes_eq word (codes "probe") then probe_of first second (cycle_of third) else None))

-- the command of a word with one word behind it
abbrev pub with_one : List ℕ → List ℕ → Option Command
with_one word first =
    if bytes_eq word (codes "report") then Some (Report first)
    else (if bytes_eq word (codes "sample") then option_map Sample (sample_number_of first) else None)

-- the command that words are: `compile PROGRAM ENTRIES IMAGE`, `compile PROGRAM ENTRIES IMAGE MAP`, `improve PROGRAM ENTRIES IMAGE BUDGET`, `sim IMAGE PACKETS`,
-- `probe IMAGE PACKETS CYCLE`, `plain PROGRAM ENTRIES PACKETS`, `report IMAGE`, `sample N`, `switch IMAGE GROUPS CAPTURE OUT EVERY`
-- or `verify PROGRAM ENTRIES IMAGE MAP`
abbrev pub command_of : List (List ℕ) → Option Command
command_of (word ∷ first ∷ second ∷ third ∷ fourth ∷ fifth ∷ []) = with_five word first second third fourth fifth
command_of (word ∷ first ∷ second ∷ third ∷ fourth ∷ []) = with_four word first second third fourth
command_of (word ∷ first ∷ second ∷ third ∷ []) = with_three word first second third
command_of (word ∷ image ∷ packets ∷ []) = if bytes_eq word (codes "sim") then Some (Sim image packets) else None
command_of (word ∷ first ∷ []) = with_one word first
command_of _ = None

-- what holds of the command that words are
abbrev pub IfCommand : Option Command → (Command → Type 0) → Type 0
IfCommand None P = Unit {0}
IfCommand (Some command) P = P command

-- the command writes files
abbrev pub WritesFiles : Command → Type 0
WritesFiles (Compile program entries image) = Unit {0}
WritesFiles (CompileMap program entries image map) = Unit {0}
WritesFiles (Improve program entries image budget) = Unit {0}
WritesFiles (Switch image groups capture out every) = Unit {0}
WritesFiles _ = ⊥

-- it prints nothing before it has all that it prints
abbrev pub PrintsAtEnd : Command → Type 0
PrintsAtEnd (Sim image packets) = ⊥
PrintsAtEnd (Probe image packets cycle) = ⊥
PrintsAtEnd (Plain program entries packets) = ⊥
PrintsAtEnd _ = Unit {0}

-- it reads no file
abbrev pub ReadsNone : Command → Type 0
ReadsNone (Sample number) = Unit {0}
ReadsNone _ = ⊥

-- the answers of a program text and an entry text, and of what they say
abbrev pub IsOfTexts : Status → Type 0
IsOfTexts status = (status ≡ Done) ⊎ (status ≡ BadProgram) ⊎ (status ≡ BadEntries) ⊎ (status ≡ NoFit) ⊎ (status ≡ TooLong)

-- the answers of files that a command may have
abbrev pub IsOf : Command → Status → Type 0
IsOf (Compile program entries image) status = IsOfTexts status
IsOf (CompileMap program entries image map) status = IsOfTexts status
IsOf (Improve program entries image budget) status = IsOfTexts status
IsOf (Sim image packets) status = (status ≡ Done) ⊎ (status ≡ BadImage) ⊎ (status ≡ BadPackets) ⊎ (status ≡ TooLong)
IsOf (Probe image packets cycle) status = (status ≡ Done) ⊎ (status ≡ BadImage) ⊎ (status ≡ BadPackets) ⊎ (status ≡ TooLong)
IsOf (Plain program entries packets) status = (status ≡ Done) ⊎ (status ≡ BadProgram) ⊎ (status ≡ BadEntries) ⊎ (status ≡ BadPackets) ⊎ (status ≡ TooLong)
IsOf (Report image) status = (status ≡ Done) ⊎ (status ≡ BadImage) ⊎ (status ≡ TooLong)
IsOf (Sample number) status = (status ≡ Done) ⊎ (status ≡ NoFit)
IsOf (Switch image groups capture out every) status = (status ≡ Done) ⊎ (status ≡ BadEntries) ⊎ (status ≡ BadImage) ⊎ (status ≡ BadPackets) ⊎ (status ≡ TooLong)
IsOf (Verify program entries image map) status = (status ≡ Done) ⊎ (status ≡ BadProgram) ⊎ (status ≡ BadEntries) ⊎ (status ≡ BadImage) ⊎ (status ≡ TooLong)

-- those of the outside or of want of memory; `sample` reads no file
abbrev pub IsOutside : Command → Status → Type 0
IsOutside (Sample number) status = (status ≡ NoMemory) ⊎ (status ≡ WriteFault)
IsOutside _ status = IsOfOutside status

-- all of them
abbrev pub IsPossible : Command → Status → Type 0
IsPossible command status = IsOf command status ⊎ IsOutside command status

-- words as their bytes
abbrev pub words_of : List (String Global) → List (List ℕ)
words_of words = map string_bytes words
