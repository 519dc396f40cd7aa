use Rattle.std.proofs.Common.{◌≡◌, length}
use Rattle.rmt_deps.specs.Levels.{all_edges}
use Rattle.rmt_place.specs.Steps.{AreEarly}
use Rattle.rmt_place.proofs.StartLaws.{starts_until}
use Rattle.rmt_place.proofs.start.offsets.Given as goal

abbrev pub invariant-loop-stage : goal.invariant-loop-stage
invariant-loop-stage l = record {
  value : l.starts.items ≡ starts_until (all_edges l.deps) l.fn.placement.parts l._stage;
  count : length l.starts.items ≡ l._stage;
  early : AreEarly l.starts.items;
}
