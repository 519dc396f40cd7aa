use Rattle.std.proofs.Common.{◌≡◌, ℕ, ◌||◌, take, length}
use Rattle.rmt_bits.specs.Members.{is_among}
use Rattle.rmt_phv.specs.Sets.{has}
use Rattle.rmt_deps.proofs.facts.insert_each.Given as goal

-- the set has the numbers so far
abbrev pub invariant-loop-number : goal.invariant-loop-number
invariant-loop-number l = record {
  size : length l.set ≡ length l.initial.set;
  inserted : (n : ℕ) → has l.set n ≡ (is_among (take l.number-index l.numbers) n || has l.initial.set n);
}
