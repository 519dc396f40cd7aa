-- What `verify` gives: whether an image and a map belong to a program with its entries.
use Rattle.std.specs.Prelude.{◌≡◌, ◌⊎◌, ℕ, List, ◌++◌, codes, Option, Some, None, MatchOption}
use Rattle.std.specs.Fmt.{decimal}
use Rattle.rmt_core.specs.Types.{Program, Config}
use Rattle.rmt_ast.specs.declared.entry.Entry.{Entry}
use Rattle.rmt_verify.specs.Checks.{AllHold, FailsFirst}
use Rattle.rmt_verify.specs.Spells.{Spells}
use Rattle.rmt_verify.specs.declared.map_file.MapFile.{MapFile}
use Rattle.rmt_drive.specs.declared.status.Status.TheVariants.{Done, BadImage}
use Rattle.rmt_drive.specs.Files.{Files, entries_limit, image_limit, map_limit, program_limit}
use Rattle.rmt_drive.specs.Given.{Given, Reads, told}
use Rattle.rmt_core.specs.Simulating.{Spelled}
use Rattle.rmt_core.specs.Texts.{Understands}

abbrev pub bad_map_line : List ℕ
bad_map_line = codes "bad image 7\n"

-- with the map that bytes spell a command goes on; it ends where they spell none
abbrev pub HasMap : Files → List ℕ → (MapFile → Given → Type 0) → Given → Type 0
HasMap files bytes next g =
    ((m : MapFile) × Spells bytes m × next m g)
    ⊎ (((m : MapFile) → Spells bytes m → ⊥) × (g ≡ told files BadImage bad_map_line))

-- `yes`, or `no K` with the number of the first part that fails
abbrev pub answer_line : Option ℕ → List ℕ
answer_line None = codes "yes\n"
answer_line (Some part) = codes "no " ++ (decimal part ++ codes "\n")

-- all parts hold, or the first one that fails is told
abbrev pub Checks : Files → Program → List (List Entry) → Config → MapFile → Given → Type 0
Checks files p lists c m g =
    (failing : Option ℕ) × MatchOption failing (AllHold p lists c m) (FailsFirst p lists c m) × (g ≡ told files Done (answer_line failing))

-- a command that checks the bytes of an image and of a map against a program with its entries
abbrev pub ChecksBytes : Files → List ℕ → List ℕ → Program → List (List Entry) → Given → Type 0
ChecksBytes files image map p lists = Spelled files image (λ c. HasMap files map (λ m. Checks files p lists c m))

-- and against those that two texts mean
abbrev pub ChecksTexts : Files → List ℕ → List ℕ → List ℕ → List ℕ → Given → Type 0
ChecksTexts files text entry_text image map = Understands files text entry_text (ChecksBytes files image map)

-- `verify PROGRAM ENTRIES IMAGE MAP`
abbrev pub GivesVerify : Files → List ℕ → List ℕ → List ℕ → List ℕ → Given → Type 0
GivesVerify files program entries image map =
    Reads files program program_limit (λ text.
    Reads files entries entries_limit (λ entry_text.
    Reads files image image_limit (λ image_bytes.
    Reads files map map_limit (λ map_bytes. ChecksTexts files text entry_text image_bytes map_bytes))))
