use Rattle.std.proofs.Common.{◌≡◌, ℕ, ◌+◌, ◌-◌, ◌*◌, ◌/◌, ◌<◌, ◌≤◌}
use Rattle.std.specs.Prelude.{IsTrue}
use Rattle.std.specs.Int.{bit_at}
use Rattle.rmt_config.specs.Layouts.{listed_cells, is_told}
use Rattle.rmt_config.proofs.form.set_bits.row_is_told.Given as goal

abbrev pub invariant-loop-low : goal.invariant-loop-low
invariant-loop-low l = record {
  at : l.low ≡ l.position * l.listed.layout.entry;
  most : l.low ≤ l.end + l.listed.layout.entry;
  after : l.start < l.low + l.listed.layout.entry;
  told : (t : ℕ) → t < l.listed.layout.bits → l.start + t < l.low → bit_at l.bits t ≡ 1
      → IsTrue (is_told l.listed.layout (listed_cells l.listed.numbers.now) l.unit l.row ((l.start + t) / l.listed.layout.entry));
}

abbrev pub decreases-loop-low : goal.decreases-loop-low
decreases-loop-low l = l.end - l.low
