use Rattle.std.proofs.Common.{◌≡◌, ℕ, ◌*◌, ◌<◌, length, get_or}
use Rattle.rmt_bits.specs.Bits.{slice, number_of}
use Rattle.rmt_memory.proofs.ternary.key_words.Given as goal

abbrev pub invariant-loop-at : goal.invariant-loop-at
invariant-loop-at l = record {
  size : length l.words ≡ 16;
  each : (k : ℕ) → k < l.at → get_or l.words k 0 ≡ slice (number_of l.key) (40 * k) 40;
}
