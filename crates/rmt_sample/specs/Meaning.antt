-- What the texts of a number mean.
use Rattle.std.specs.Prelude.{◌≡◌, ◌≤◌, ℕ, List, Ok}
use Rattle.rmt_ast.specs.declared.entry.Entry.{Entry}
use Rattle.rmt_ast.specs.declared.program.Program.{Program}
use Rattle.rmt_check.specs.Means.{Means}
use Rattle.rmt_entries.specs.Entries.{entries_of}
use Rattle.rmt_sample.specs.SampleProgram.{sample_entries, sample_program}
use Rattle.rmt_sample.specs.Texts.{entries_text, program_text}

-- the texts of a number mean a program with these entries
pub record AreOfSample (n : ℕ) (p : Program) (lists : List (List Entry)) : Type 0 where
  pub means : Means (program_text n) (Ok p)
  pub says : entries_of p (entries_text n) ≡ Ok lists

-- The texts of every number from 1 to 100,000 mean one program with its entries, which stands in SampleProgram.
abbrev pub SampleIsMeant : Type 0
SampleIsMeant = (n : ℕ) → 1 ≤ n → n ≤ 100000 → AreOfSample n (sample_program n) (sample_entries n)
