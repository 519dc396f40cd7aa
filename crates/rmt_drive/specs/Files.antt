-- Files by name, and what a command finds in them.
use Rattle.std.specs.Prelude.{ℕ, List, Option, Some, None, fold, length, nat_lt, if◌then◌else◌}
use Rattle.std.specs.Str.{bytes_eq}

-- the bytes of files by name
abbrev pub Files : Type 0
Files = List ℕ → Option (List ℕ)

-- the files with one more, or another one of its name
abbrev pub updated : Files → List ℕ → List ℕ → Files
updated files name bytes = λ other. if bytes_eq other name then Some bytes else files other

-- a file that is written: its name, and the bytes that it has then
pub record Write : Type 0 where
  pub name : List ℕ
  pub bytes : List ℕ

-- the files as they stand when these were written, one after another
abbrev pub all_written : Files → List Write → Files
all_written files writes = fold (λ (f : Files) (w : Write). updated f w.name w.bytes) files writes

-- what is found in a file of which so many bytes may be read
pub data Found : Type 0 where
  Absent : Found
  Long : Found
  Holds : (bytes : List ℕ) → Found

abbrev pub found : ℕ → Option (List ℕ) → Found
found limit None = Absent
found limit (Some bytes) = if nat_lt limit (length bytes) then Long else Holds bytes

-- how many bytes a program text, an entry text, an image, a map, a group text, a capture file and a packet text may have
abbrev pub program_limit : ℕ
program_limit = 1048576

abbrev pub entries_limit : ℕ
entries_limit = 67108864

abbrev pub image_limit : ℕ
image_limit = 268435456

abbrev pub map_limit : ℕ
map_limit = 268435456

abbrev pub groups_limit : ℕ
groups_limit = 1048576

abbrev pub capture_limit : ℕ
capture_limit = 16777216

abbrev pub packets_limit : ℕ
packets_limit = 1099511627776
