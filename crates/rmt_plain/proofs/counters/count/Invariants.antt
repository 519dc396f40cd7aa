use Rattle.std.proofs.Common.{◌≡◌, ◌++◌, ℕ, List, take}
use Rattle.rmt_bits.specs.Counts.{Hit, counts, hits_by}
use Rattle.rmt_plain.proofs.counters.count.Given as goal

abbrev pub invariant-loop-number : goal.invariant-loop-number
invariant-loop-number l =
    (numbers : List ℕ) (before : List Hit) → l.initial.counters.counts ≡ counts numbers before → l.counters.counts ≡ counts numbers (before ++ hits_by l.bytes (take l.number-index l.hits))
