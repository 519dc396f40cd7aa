use Rattle.std.proofs.Common.{◌≡◌, ◌<◌, ◌≤◌, ℕ, get_or, bit_or}
use Rattle.rmt_phv.proofs.sets.insert_all.Given as goal

-- the blocks so far are united, and the others as they were
abbrev pub invariant-loop-at : goal.invariant-loop-at
invariant-loop-at l = record {
  united : (k : ℕ) → k < l.at → get_or l.set k 0 ≡ bit_or (get_or l.initial.set k 0) (get_or l.other k 0);
  kept : (k : ℕ) → l.at ≤ k → get_or l.set k 0 ≡ get_or l.initial.set k 0;
}
