-- When what becomes of a packet on the chip is what a program answers.
use Rattle.std.specs.Prelude.{◌≡◌, ◌==◌, ℕ, List, count_by}
use Rattle.rmt_refine.specs.Types.{Program}
use Rattle.rmt_ast.specs.declared.entry.Entry.{Entry}
use Rattle.rmt_bits.specs.declared.answer.Answer.{Answer}
use Rattle.rmt_config.specs.Life.{Counted}
use Rattle.rmt_config.specs.ChipRun.{Outcome}
use Rattle.rmt_refine.specs.CountedHits.{counted_hits}

-- The verdict and the bytes are the answer's, and a number is counted as often as the answer hits the entry of that number in a counted table.
pub record AnswersAs (p : Program) (lists : List (List Entry)) (o : Outcome) (a : Answer) : Type 0 where
  pub verdict : o.verdict ≡ a.verdict
  pub bytes : o.bytes ≡ a.bytes
  pub counted : (n : ℕ) → count_by (λ (x : Counted). x.number == n) o.counted ≡ count_by (λ m. m == n) (counted_hits p lists a.hits)
