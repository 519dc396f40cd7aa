use Rattle.std.proofs.Common.{◌≡◌, ℕ}
use Rattle.std.specs.Int.{bit_at}
use Rattle.rmt_memory.specs.Slicing.{IsOn}
use Rattle.rmt_memory.proofs.sliced.Sliced.left.Given as goal

abbrev pub invariant-loop-nibble : goal.invariant-loop-nibble
invariant-loop-nibble l = record {
  on : (j : ℕ) → bit_at l.left j ≡ 1 → IsOn l.self l.sight l.vectors l.nibble l.at j;
  all : (j : ℕ) → IsOn l.self l.sight l.vectors l.nibble l.at j → bit_at l.left j ≡ 1;
}
