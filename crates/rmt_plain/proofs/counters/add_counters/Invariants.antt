use Rattle.std.proofs.Common.{◌≡◌, ◌+◌, ◌≤◌, ◌++◌, ℕ, List, take, length}
use Rattle.std.specs.Prelude.{All}
use Rattle.rmt_bits.specs.Counts.{Hit, counts}
use Rattle.rmt_plain.specs.Counters.{IsThereIfHit}
use Rattle.rmt_plain.proofs.counters.add_counters.Given as goal

abbrev pub invariant-loop-number : goal.invariant-loop-number
invariant-loop-number l = record {
  room : length l.numbers ≤ l.counters.room + l.number-index;
  counts_are : (before : List ℕ) (hits : List Hit) → l.initial.counters.counts ≡ counts before hits → All (IsThereIfHit before hits) l.numbers
      → l.counters.counts ≡ counts (before ++ take l.number-index l.numbers) hits;
}
