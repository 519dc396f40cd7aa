use Rattle.std.proofs.Common.{◌≡◌, ◌≢◌, ℕ, ◌*◌, ◌<◌, length}
use Rattle.rmt_memory.specs.Slicing.{leaves, bit_if, bit_in}
use Rattle.rmt_memory.proofs.row_bits.set_row.Given as goal

abbrev pub invariant-loop-at : goal.invariant-loop-at
invariant-loop-at l = record {
  size : length l.bits ≡ length l.fn.bits;
  leaves : (v : ℕ) → v < 16 * l.at → bit_in l.bits l.width v l.row ≡ bit_if (leaves (record { masks = l.masks; values = l.values }) v);
  others : (v r : ℕ) → r < 64 * l.width → r ≢ l.row → bit_in l.bits l.width v r ≡ bit_in l.fn.bits l.width v r;
}
