use Rattle.std.proofs.Common.{◌≡◌, ◌<◌, ℕ, List, length, get_or, ltb, ◌&&◌}
use Rattle.rmt_phv.specs.Sets.{has}
use Rattle.rmt_phv.specs.Writers.{assigns}
use Rattle.rmt_phv.proofs.writers.writers_of.Given as goal

-- the sets have the actions so far
abbrev pub invariant-loop-number : goal.invariant-loop-number
invariant-loop-number l = record {
  all_there : length l.sets.items ≡ length l.program.fields;
  so_far : (f n : ℕ) (d : List ℕ) → f < length l.sets.items → has (get_or l.sets.items f d) n ≡ (ltb n l.number && assigns l.program n f);
}
