use Rattle.std.proofs.Common.{◌≡◌, ◌<◌, ◌≤◌, ℕ, length}
use Rattle.rmt_cuckoo.specs.Search.{IsSeen, cell_at}
use Rattle.rmt_cuckoo.proofs.search.unmark.Given as goal

-- only cells of the steps left are seen
abbrev pub invariant-loop-step : goal.invariant-loop-step
invariant-loop-step l = record {
  size : length l.seen.items ≡ length l.fn.seen.items;
  left : (c : ℕ) → IsSeen l.seen.items c → (k : ℕ) × (l.step-index ≤ k) × (k < length l.steps) × (cell_at l.steps k ≡ c);
}
