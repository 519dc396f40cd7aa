use Rattle.std.proofs.Common.{◌≡◌, ℕ, ◌<◌, ◌≤◌, length, bit_and, slice_index}
use Rattle.rmt_memory.proofs.rows_left.keep.Given as goal

abbrev pub invariant-loop-at : goal.invariant-loop-at
invariant-loop-at l = record {
  size : length l.words ≡ 8;
  done : (k : ℕ) → k < l.at → slice_index l.words k ≡ bit_and (slice_index l.initial.words k) (slice_index l.others k);
  rest : (k : ℕ) → l.at ≤ k → slice_index l.words k ≡ slice_index l.initial.words k;
}
