use Rattle.std.proofs.Common.{◌≡◌, ℕ, ◌+◌, ◌*◌, ◌<◌, length, get_or}
use Rattle.rmt_memory.specs.Slicing.{nibble}
use Rattle.rmt_memory.proofs.sliced.Sliced.vectors_of.Given as goal

abbrev pub invariant-loop-at : goal.invariant-loop-at
invariant-loop-at l = record {
  size : length l.vectors ≡ 160;
  each : (n : ℕ) → n < l.at → get_or l.vectors n 0 ≡ (16 * n + nibble l.key n) * l.self.width;
}
