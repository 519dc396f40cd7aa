-- An entry that is looked for in a cell.
use Rattle.std.specs.Prelude.{◌≡◌, ◌≤◌, ℕ, List, All, sum}
use Rattle.std.specs.List.{AllZip}
use Rattle.rmt_ast.specs.declared.entry.Entry.{Entry}
use Rattle.rmt_ast.specs.WellFormed.{Fits, IsTest}
use Rattle.rmt_config.specs.Cells.{Content, code_of, tcam_row}
use Rattle.rmt_config.specs.Effects.{HasArguments}
use Rattle.rmt_config.specs.Rooms.{tests_as_one}
use Rattle.rmt_config.specs.declared.config.TcamRow.{TcamRow}
use Rattle.rmt_pack.specs.declared.tcam.TcamWord.{TcamWord}

-- what a row of a TCAM block compares
abbrev pub word_in : List TcamRow → ℕ → ℕ → TcamWord
word_in rows row block = record { value = tcam_row (λ t. t.value) rows block row; mask = tcam_row (λ t. t.mask) rows block row }

-- an entry whose key fields and parameters have these widths
pub record IsWanted (widths params : List ℕ) (e : Entry) : Type 0 where
  pub tests : AllZip IsTest widths e.tests
  pub narrow : All (λ w. w ≤ 128) widths
  pub few : sum widths ≤ 640
  pub args : AllZip Fits params e.args
  pub short : All (λ w. w ≤ 128) params
  pub all : sum params ≤ 2048

-- a cell holds it, with the instruction of that number
pub record Matches (widths params : List ℕ) (code : ℕ) (e : Entry) (x : Content) : Type 0 where
  pub code_is : code_of x.head ≡ code
  pub key : x.key ≡ tests_as_one (λ t. t.value) widths e.tests
  pub mask : x.mask ≡ tests_as_one (λ t. t.mask) widths e.tests
  pub held : HasArguments params e.args x.held
