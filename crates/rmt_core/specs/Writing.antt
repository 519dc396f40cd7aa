-- Files that are written one after another.
use Rattle.std.specs.Prelude.{◌≡◌, ◌≤◌, IsTrue, List, ◌∷◌, ◌++◌, map, string_bytes}
use Rattle.rmt_io.specs.Outside.{ShelfState}
use Rattle.rmt_core.specs.declared.writing.NewFile.{NewFile}
use Rattle.rmt_drive.specs.Ends.{AreSame}
use Rattle.rmt_drive.specs.Files.{Files, Write, all_written}

-- files as they are to be written
abbrev pub write_of : NewFile → Write
write_of file = record { name = string_bytes file.name; bytes = file.bytes.items }

abbrev pub writes_of : List NewFile → List Write
writes_of files = map write_of files

-- of files that were to be written in this order the first stand, but not all, and all others are as before
pub record StoodUpTo (before after : Files) (writes : List Write) : Type 0 where
  pub done : List Write
  pub next : Write
  pub rest : List Write
  pub writes_are : writes ≡ done ++ (next ∷ rest)
  pub files : AreSame after (all_written before done)

-- What writes these files, one after another, changes no other; a shelf tells its files as before, and one that was steady still is.
pub record WroteAll (writes : List Write) (before after : ShelfState) : Type 0 where
  pub files : IsTrue before.tells → AreSame after.files (all_written before.files writes)
  pub tells : after.tells ≡ before.tells
  pub stays_steady : IsTrue before.steady → IsTrue after.steady
  pub reading : after.reading_faults ≡ before.reading_faults
  pub writing : before.writing_faults ≤ after.writing_faults
