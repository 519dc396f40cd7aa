-- A shelf of files in memory.
use Rattle.std.specs.Prelude.{ℕ, ◌+◌, true, List, [], Option, Some, None, drop, map, refl, string_bytes, String, Vec}
use Rattle.std.specs.Global.{Global}
use Rattle.std.specs.Coded.{Coded, code_by, coded×, coded_list, coded_option, coded_ℕ}
use Rattle.std.specs.Ordering.{nat_cmp}
use Rattle.std.specs.Cmp.Lexicographic.{slice_cmp}
use Rattle.std.specs.FinMap as fin
use Rattle.rmt_io.specs.Calls.{fails_no_more, raised}
use Rattle.rmt_io.specs.Outside.{ShelfState}

-- files by the bytes of their names
abbrev pub Files : Type 0
Files = fin.FinMap (slice_cmp nat_cmp) (List ℕ)

-- the open file: its name, and how many of its bytes were given
pub record Opened : Type 0 where
  pub name : List ℕ
  pub position : ℕ

-- an open file is stored as the pair of its parts
abbrev pub opened_code : Coded Opened
opened_code = code_by (List ℕ × ℕ) (coded× (coded_list coded_ℕ) coded_ℕ) (λ o. (o.name, o.position)) (λ p. record { name = p.0; position = p.1 }) (λ _. refl)

-- its files, the open one, the numbers of the calls that are to fail, the most bytes that one `next` gives, how many calls were made,
-- and both counts of faults
pub record MemoryFiles : Type 0 where
  pub files : Files
  pub opened : Option Opened
  pub fails : List ℕ
  pub most : ℕ
  pub calls : ℕ
  pub reading : ℕ
  pub writing : ℕ

-- a shelf is stored as the tuple of its parts
abbrev pub memory_files_code : Coded MemoryFiles
memory_files_code =
    code_by (Files × (Option Opened × (List ℕ × (ℕ × (ℕ × (ℕ × ℕ))))))
    (coded× (fin.code (coded_list coded_ℕ) (coded_list coded_ℕ)) (coded× (coded_option opened_code) (coded× (coded_list coded_ℕ) (coded× coded_ℕ (coded× coded_ℕ (coded× coded_ℕ coded_ℕ))))))
    (λ s. (s.files, (s.opened, (s.fails, (s.most, (s.calls, (s.reading, s.writing)))))))
    (λ p. record { files = p.0; opened = p.1.0; fails = p.1.1.0; most = p.1.1.1.0; calls = p.1.1.1.1.0; reading = p.1.1.1.1.1.0; writing = p.1.1.1.1.1.1 })
    (λ _. refl)

-- the bytes of a file from a position on, and none where there is no file
abbrev pub from_position : ℕ → Option (List ℕ) → List ℕ
from_position position None = []
from_position position (Some bytes) = drop position bytes

-- the bytes of an open file from the position in it on, and none where no file is open
abbrev pub rest_in : Files → Option Opened → List ℕ
rest_in files None = []
rest_in files (Some o) = from_position o.position (fin.get files o.name)

-- the bytes that a shelf's open file has yet to give
abbrev pub rest_of : MemoryFiles → List ℕ
rest_of s = rest_in s.files s.opened

-- the open file after so many more of its bytes
abbrev pub moved : ℕ → Option Opened → Option Opened
moved count None = None
moved count (Some o) = Some (record o { position = o.position + count })

-- entries of a map of texts, by the bytes of their names
abbrev pub text_entries : List (String Global × Vec ℕ Global) → List (List ℕ × List ℕ)
text_entries entries = map (λ e. (string_bytes e.0, e.1.items)) entries

-- the shelf after one more numbered call
abbrev pub shelf_called : MemoryFiles → MemoryFiles
shelf_called s = record s { calls = raised s.calls }

-- what contracts see of it
abbrev pub shelf_state : MemoryFiles → ShelfState
shelf_state s = record {
  tells = true;
  files = λ name. fin.get s.files name;
  rest = rest_of s;
  reading_faults = s.reading;
  writing_faults = s.writing;
  steady = fails_no_more s.fails s.calls;
}
