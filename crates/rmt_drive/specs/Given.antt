-- What a command gives where nothing fails outside, and how reading files begins it.
use Rattle.std.specs.Prelude.{◌≡◌, ℕ, List, [], ◌∷◌, Option, Some, None}
use Rattle.rmt_drive.specs.declared.status.Status.{Status}
use Rattle.rmt_drive.specs.declared.status.Status.TheVariants.{Done, ReadFault, TooLong}
use Rattle.rmt_drive.specs.Files.{Files, Found, Absent, Long, Holds, Write, all_written, found}

-- a status, the whole text that is printed, the files as they stand afterwards, and those that are written, in their order
pub record Given : Type 0 where
  pub status : Status
  pub text : List ℕ
  pub files : Files
  pub writes : List Write

-- a status with this text, and the files as they are
abbrev pub told : Files → Status → List ℕ → Given
told files status text = record { status = status; text = text; files = files; writes = [] }

-- Done with these lines, behind files that are written one after another
abbrev pub stored : Files → List Write → List ℕ → Given
stored files writes lines = record { status = Done; text = lines; files = all_written files writes; writes = writes }

-- one file, as all that is written
abbrev pub one_file : List ℕ → List ℕ → List Write
one_file name bytes = record { name = name; bytes = bytes } ∷ []

-- a command that writes these files and prints these lines, whatever there was
abbrev pub Stores : List Write → List ℕ → Files → Given → Type 0
Stores writes lines files g = g ≡ stored files writes lines

-- a command that reads a file of which so many bytes may be read, and then goes on with them
abbrev pub OfFound : Files → (List ℕ → Given → Type 0) → Given → Found → Type 0
OfFound files next g Absent = g ≡ told files ReadFault []
OfFound files next g Long = g ≡ told files TooLong []
OfFound files next g (Holds bytes) = next bytes g

abbrev pub Reads : Files → List ℕ → ℕ → (List ℕ → Given → Type 0) → Given → Type 0
Reads files name limit next g = OfFound files next g (found limit (files name))

-- a command that opens a file of any length, and then goes on with its bytes
abbrev pub OfOpened : Files → (List ℕ → Given → Type 0) → Given → Option (List ℕ) → Type 0
OfOpened files next g None = g ≡ told files ReadFault []
OfOpened files next g (Some bytes) = next bytes g

abbrev pub Opens : Files → List ℕ → (List ℕ → Given → Type 0) → Given → Type 0
Opens files name next g = OfOpened files next g (files name)
