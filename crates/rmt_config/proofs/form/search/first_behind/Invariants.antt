use Rattle.std.proofs.Common.{ℕ, ◌-◌, ◌<◌, ◌≤◌, length, get_or}
use Rattle.rmt_config.proofs.form.search.first_behind.Given as goal

abbrev pub invariant-loop-high : goal.invariant-loop-high
invariant-loop-high g l = record {
  order : l.low ≤ l.high;
  within : l.high ≤ length l.items;
  below : (k : ℕ) (d : g.row.T.Denot) → k < l.low → g.T.Numbered.place_of (get_or l.items k d) < l.place;
}

abbrev pub decreases-loop-high : goal.decreases-loop-high
decreases-loop-high g l = length l.items - l.low
