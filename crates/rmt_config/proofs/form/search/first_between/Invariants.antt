use Rattle.std.proofs.Common.{ℕ, ◌-◌, ◌<◌, ◌≤◌, length, get_or}
use Rattle.rmt_config.proofs.form.search.first_between.Given as goal

abbrev pub invariant-loop-low : goal.invariant-loop-low
invariant-loop-low g l = record {
  order : l.low ≤ l.high;
  within : l.high ≤ length l.items;
  below : (k : ℕ) (d : g.row.T.Denot) → k < l.low → g.T.Numbered.place_of (get_or l.items k d) < l.place;
  above : (k : ℕ) (d : g.row.T.Denot) → l.high ≤ k → k < length l.items → l.place ≤ g.T.Numbered.place_of (get_or l.items k d);
}

abbrev pub decreases-loop-low : goal.decreases-loop-low
decreases-loop-low g l = l.high - l.low
