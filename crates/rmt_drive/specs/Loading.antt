-- What is found of a file, or why it was not read or opened, by the status that tells it.
use Rattle.std.specs.Prelude.{◌≡◌, ◌⊎◌, ℕ, IsTrue, List}
use Rattle.rmt_io.specs.Outside.{ShelfState, LacksFile}
use Rattle.rmt_drive.specs.declared.status.Status.{Status}
use Rattle.rmt_drive.specs.declared.status.Status.TheVariants.{ReadFault, TooLong, NoMemory}
use Rattle.rmt_drive.specs.Files.{Absent, Long, Holds, found}

-- where a shelf tells its files, one of which so many bytes may be read has these
abbrev pub IsFound : ShelfState → List ℕ → ℕ → List ℕ → Type 0
IsFound shelf name limit bytes = IsTrue shelf.tells → found limit (shelf.files name) ≡ Holds bytes

-- a file was not read: a shelf that tells its files says TooLong only of a long one, and a steady one ReadFault only of an absent one
pub record NotRead (shelf : ShelfState) (name : List ℕ) (limit : ℕ) (status : Status) : Type 0 where
  pub kind : (status ≡ ReadFault) ⊎ (status ≡ TooLong) ⊎ (status ≡ NoMemory)
  pub long : status ≡ TooLong → IsTrue shelf.tells → found limit (shelf.files name) ≡ Long
  pub absent : status ≡ ReadFault → IsTrue shelf.steady → found limit (shelf.files name) ≡ Absent

-- a file was not opened
pub record NotOpened (shelf : ShelfState) (name : List ℕ) (status : Status) : Type 0 where
  pub kind : (status ≡ ReadFault) ⊎ (status ≡ NoMemory)
  pub absent : status ≡ ReadFault → LacksFile shelf name
