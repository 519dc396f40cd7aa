use Rattle.std.proofs.Common.{◌≡◌, List, ◌*◌, ◌≤◌, drop, max, length}
use Rattle.std.specs.List.{fold, flat_map}
use Rattle.rmt_pack.specs.declared.placement.Part.{Part}
use Rattle.rmt_place.specs.Starting.{asked_by}
use Rattle.rmt_place.specs.Steps.{Marked}
use Rattle.rmt_place.proofs.start.asked_by_all.Given as goal

abbrev pub invariant-loop-edge : goal.invariant-loop-edge
invariant-loop-edge l = record {
  value : (parts : List Part) → Marked parts l.marks →
      fold max l.latest (flat_map (asked_by l.starts parts (length l.starts)) (drop l.edge-index l.edges)) ≡ fold max l.fn.start (flat_map (asked_by l.starts parts (length l.starts)) l.edges);
  early : l.latest ≤ 12 * length l.starts;
}
