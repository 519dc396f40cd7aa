use Rattle.std.proofs.Common.{◌≡◌, ℕ, ◌<◌, length, get_or, true}
use Rattle.rmt_config.specs.Marks.{is_marked}
use Rattle.rmt_config.proofs.form.names.marks.marks_of.Given as goal

abbrev pub invariant-loop-number : goal.invariant-loop-number
invariant-loop-number l = record {
  some : 0 < length l.words.items;
  marked : (k : ℕ) → k < l.number-index → is_marked l.words.items (get_or l.numbers k 0) ≡ true;
}
