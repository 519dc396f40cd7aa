-- What contracts see of the outside: a shelf of files, a sink of bytes, and what a call leaves of them.
use Rattle.std.specs.Prelude.{◌≡◌, ◌≢◌, ◌≤◌, ◌<◌, ℕ, Bool, IsTrue, List, Option, Some, None, ◌++◌, length}
use Rattle.rmt_io.specs.Faults.{Rose}

-- ---- shelves

-- whether it tells its files; their bytes by name, and the bytes of the open file from the position in it on, which are of use where it tells them;
-- how many faults of reading and of writing there were, up to the last number; and whether it tells its files and no later call fails of its own
pub record ShelfState : Type 0 where
  pub tells : Bool
  pub files : List ℕ → Option (List ℕ)
  pub rest : List ℕ
  pub reading_faults : ℕ
  pub writing_faults : ℕ
  pub steady : Bool

-- where files are told, the one of this name has these bytes
abbrev pub HasFile : ShelfState → List ℕ → List ℕ → Type 0
HasFile s name bytes = IsTrue s.tells → s.files name ≡ Some bytes

-- where files are told, the one of this name has more bytes than these
abbrev pub HasLonger : ShelfState → List ℕ → ℕ → Type 0
HasLonger s name limit = IsTrue s.tells → (bytes : List ℕ) × (s.files name ≡ Some bytes) × (limit < length bytes)

-- where the shelf is steady, there is no file of this name
abbrev pub LacksFile : ShelfState → List ℕ → Type 0
LacksFile s name = IsTrue s.steady → s.files name ≡ None

-- where files are told, they are the same afterwards
abbrev pub KeepsFiles : ShelfState → ShelfState → Type 0
KeepsFiles before after = IsTrue before.tells → (name : List ℕ) → after.files name ≡ before.files name

-- where files are told, the open one gave these bytes
abbrev pub GaveBytes : ShelfState → ShelfState → List ℕ → Type 0
GaveBytes before after bytes = IsTrue before.tells → before.rest ≡ bytes ++ after.rest

-- a fault of reading was counted
abbrev pub ReadingFailed : ShelfState → ShelfState → Type 0
ReadingFailed before after = Rose before.reading_faults after.reading_faults

-- a fault of writing was counted
abbrev pub WritingFailed : ShelfState → ShelfState → Type 0
WritingFailed before after = Rose before.writing_faults after.writing_faults

-- What only reads leaves every file, and counts no fault of writing; a shelf tells its files as before, and one that was steady still is.
pub record OnlyRead (before after : ShelfState) : Type 0 where
  pub files : (name : List ℕ) → after.files name ≡ before.files name
  pub tells : after.tells ≡ before.tells
  pub stays_steady : IsTrue before.steady → IsTrue after.steady
  pub reading : before.reading_faults ≤ after.reading_faults
  pub writing : after.writing_faults ≡ before.writing_faults

-- What only writes the file of a name leaves every other one, and counts no fault of reading; a shelf tells its files as before, and one that was steady still is.
pub record OnlyWrote (name : List ℕ) (before after : ShelfState) : Type 0 where
  pub others : IsTrue before.tells → (other : List ℕ) → other ≢ name → after.files other ≡ before.files other
  pub tells : after.tells ≡ before.tells
  pub stays_steady : IsTrue before.steady → IsTrue after.steady
  pub reading : after.reading_faults ≡ before.reading_faults
  pub writing : before.writing_faults ≤ after.writing_faults

-- ---- sinks

-- whether it tells its bytes; those taken so far, which are of use where it tells them; and how many faults there were, up to the last number
pub record SinkState : Type 0 where
  pub tells : Bool
  pub bytes : List ℕ
  pub faults : ℕ

-- where bytes are told, these were added
abbrev pub Gained : SinkState → SinkState → List ℕ → Type 0
Gained before after bytes = IsTrue before.tells → after.bytes ≡ before.bytes ++ bytes

-- where bytes are told, none was added
abbrev pub GainedNone : SinkState → SinkState → Type 0
GainedNone before after = IsTrue before.tells → after.bytes ≡ before.bytes

-- a fault was counted
abbrev pub PrintingFailed : SinkState → SinkState → Type 0
PrintingFailed before after = Rose before.faults after.faults

-- What only prints leaves the bytes before in front; a sink tells its bytes as before, and its count of faults does not fall.
pub record OnlyPrinted (before after : SinkState) : Type 0 where
  pub tells : after.tells ≡ before.tells
  pub grows : IsTrue before.tells → (gained : List ℕ) × (after.bytes ≡ before.bytes ++ gained)
  pub counts : before.faults ≤ after.faults
