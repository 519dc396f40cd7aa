use Rattle.std.proofs.Common.{◌≡◌, List, ◌-◌, ◌*◌, ◌≤◌, max, length}
use Rattle.std.specs.List.{fold}
use Rattle.rmt_pack.specs.declared.placement.Part.{Part}
use Rattle.rmt_place.specs.Starting.{starts_behind}
use Rattle.rmt_place.specs.Steps.{Marked}
use Rattle.rmt_place.proofs.StartLaws.{starts_from}
use Rattle.rmt_place.proofs.start.behind_parts.Given as goal

abbrev pub invariant-loop-stage : goal.invariant-loop-stage
invariant-loop-stage l = record {
  value : (parts : List Part) → Marked parts l.marks →
      fold max l.latest (starts_from l.starts parts l.stage (length l.starts - l.stage) l.node l.distance) ≡ fold max l.fn.start (starts_behind l.starts parts (length l.starts) l.node l.distance);
  early : l.latest ≤ 12 * length l.starts;
}
