use Rattle.std.proofs.Common.{◌≡◌, ◌+◌, ◌*◌, ◌≤◌, drop, max}
use Rattle.std.specs.List.{fold}
use Rattle.rmt_config.specs.Resources.{greatest_by}
use Rattle.rmt_place.proofs.start.behind_all.Given as goal

abbrev pub invariant-loop-other : goal.invariant-loop-other
invariant-loop-other l = record {
  value : fold (λ most s. max most (s + 1)) l.start (drop l.other-index l.starts) ≡ greatest_by (λ s. s + 1) l.starts;
  early : l.start ≤ 12 * l.other-index;
}
