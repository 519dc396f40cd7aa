use Rattle.std.proofs.Common.{◌≡◌, ◌<◌, ℕ, get_or, bit_and}
use Rattle.rmt_phv.proofs.sets.meets.Given as goal

-- the blocks so far have no bit in common
abbrev pub invariant-loop-at : goal.invariant-loop-at
invariant-loop-at l = (k : ℕ) → k < l.at → bit_and (get_or l.a k 0) (get_or l.b k 0) ≡ 0
