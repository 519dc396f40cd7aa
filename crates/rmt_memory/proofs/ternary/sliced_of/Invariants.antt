use Rattle.std.proofs.Common.{◌≡◌, ◌+◌, ◌/◌, ◌<◌, ℕ, Option}
use Rattle.rmt_bits.specs.Grouping.{Compared}
use Rattle.rmt_memory.specs.Comparing.{ShowsListed}
use Rattle.rmt_memory.proofs.PutLaws.{RowsPut}
use Rattle.rmt_memory.proofs.ternary.sliced_of.Given as goal

abbrev pub invariant-loop-at : goal.invariant-loop-at
invariant-loop-at l = record {
  words : l.sliced.words ≡ l.side;
  width : l.sliced.width ≡ (l.count + 63) / 64;
  put : (shown : ℕ → Option Compared) (sight : ℕ) → sight < 3 → ShowsListed sight l.count l.rows l.blocks l.side l.numbers l.heads shown → RowsPut l.numbers shown sight l.count l.at l.sliced;
}
