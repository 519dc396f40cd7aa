-- The texts of a sample mean a program with its entries.
use Rattle.std.proofs.Common.{◌≡◌, ◌∙◌, ap, subst, arith, ℕ, ◌+◌, ◌≤◌, [], length, Ok}
use Rattle.std.specs.Fmt.{decimal}
use Rattle.rmt_check.specs.Meaning.{program_of}
use Rattle.rmt_check.specs.Means.{Means, of_program}
use Rattle.rmt_check.specs.Rules.{fault_of}
use Rattle.rmt_entries.specs.Entries.{entries_of, lists_or_fault, reading}
use Rattle.rmt_bits.specs.Lines.{numbered_lines}
use Rattle.rmt_sample.specs.Texts.{entries_text, program_text}
use Rattle.rmt_sample.specs.SampleProgram.{sample_entries, sample_program}
use Rattle.rmt_sample.specs.Meaning.{SampleIsMeant}
use Rattle.rmt_sample.proofs.EntryLaws.{entries_read, lists_are}
use Rattle.rmt_sample.proofs.ProgramForest.{is_tree, tokens, tree}
use Rattle.rmt_sample.proofs.ProgramLaws.{no_fault, program_is, tables_are}
use Rattle.rmt_sample.proofs.SourceLaws.{source_is}
use Rattle.rmt_sample.proofs.TokenLaws.{tokens_are}

program_meant : (n : ℕ) → 1 ≤ n → n ≤ 100000 → Means (program_text n) (Ok (sample_program n))
program_meant n some few =
    let first = 51 + length (decimal n) in
    let second = 53 + length (decimal n) in
    let is = source_is n first second in
    subst (λ p. Means (program_text n) (Ok p)) (ap program_of is ∙ program_is n first second)
    (of_program (tokens n first second) (tree n first second) (tokens_are n (omega arith)) (is_tree n first second) (ap fault_of is ∙ no_fault n first second some few))

entries_said : (n : ℕ) → n ≤ 100000 → entries_of (sample_program n) (entries_text n) ≡ Ok (sample_entries n)
entries_said n few =
    ap (λ ts. lists_or_fault 3 (reading ts [] (numbered_lines 1 (entries_text n)))) (tables_are n) ∙ ap (lists_or_fault 3) (entries_read n few) ∙ ap Ok (lists_are n)

pub sample_is_meant : SampleIsMeant
sample_is_meant n some few = record { means = program_meant n some few; says = entries_said n few }
