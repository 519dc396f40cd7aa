use Rattle.std.proofs.Common.{◌≡◌, ℕ, ◌<◌, length, get_or, true}
use Rattle.std.specs.Prelude.{Contains}
use Rattle.rmt_config.specs.Marks.{is_marked}
use Rattle.rmt_config.proofs.form.names.repeats.met_again.Given as goal

abbrev pub invariant-loop-number : goal.invariant-loop-number
invariant-loop-number l = record {
  some : 0 < length l.marks.items;
  marked : (k : ℕ) → k < l.number-index → is_marked l.marks.items (get_or l.numbers k 0) ≡ true;
  again : (i j : ℕ) → i < j → j < l.number-index → get_or l.numbers i 0 ≡ get_or l.numbers j 0 → Contains l.again.items (get_or l.numbers j 0);
}
