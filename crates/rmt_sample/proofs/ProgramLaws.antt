-- The source of a sample's program breaks no rule of form and means the program.
use Rattle.std.proofs.Common.{◌≡◌, refl, arith, ℕ, ◌≤◌, None}
use Rattle.std.proofs.lemmas.Bool.{le-leb}
use Rattle.rmt_check.specs.Meaning.{program_of}
use Rattle.rmt_check.specs.Rules.{fault_of}
use Rattle.rmt_entries.specs.Tables.{applied_tables}
use Rattle.rmt_sample.specs.SampleProgram.{sample_program}
use Rattle.rmt_sample.proofs.EntryLineLaws.{tables}
use Rattle.rmt_sample.proofs.ProgramSource.{source}

-- of the rules only that of sizes looks at n
pub no_fault : (n first second : ℕ) → 1 ≤ n → n ≤ 100000 → fault_of (source n first second) ≡ None
no_fault n first second some few = rw (le-leb 1 n some, le-leb n 1048576 (omega arith)) refl

pub program_is : (n first second : ℕ) → program_of (source n first second) ≡ sample_program n
program_is n first second = refl

pub tables_are : (n : ℕ) → applied_tables (sample_program n) ≡ tables n
tables_are n = refl
