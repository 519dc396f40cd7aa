use Rattle.std.proofs.Common.{◌≡◌, ℕ, ◌+◌, ◌<◌, length, slice_index}
use Rattle.std.specs.Int.{bit_at}
use Rattle.rmt_memory.specs.Slicing.{IsOn}
use Rattle.rmt_memory.proofs.sliced.Sliced.left_of_eight.Given as goal

abbrev pub invariant-loop-nibble : goal.invariant-loop-nibble
invariant-loop-nibble l = record {
  size : length l.left ≡ 8;
  on : (k j : ℕ) → k < 8 → bit_at (slice_index l.left k) j ≡ 1 → IsOn l.self l.sight l.vectors l.nibble (l.at + k) j;
  all : (k j : ℕ) → k < 8 → IsOn l.self l.sight l.vectors l.nibble (l.at + k) j → bit_at (slice_index l.left k) j ≡ 1;
}
