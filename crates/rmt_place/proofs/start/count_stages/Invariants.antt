use Rattle.std.proofs.Common.{◌≡◌, ◌+◌, ◌≤◌, drop, max}
use Rattle.std.specs.List.{fold}
use Rattle.rmt_pack.specs.declared.placement.Part.{Part}
use Rattle.rmt_place.specs.Starting.{stages_in}
use Rattle.rmt_place.proofs.start.count_stages.Given as goal

abbrev pub invariant-loop-part : goal.invariant-loop-part
invariant-loop-part l = record {
  value : fold (λ most (x : Part). max most (x.stage + 1)) l.count (drop l.part-index l.parts) ≡ stages_in l.parts;
  few : l.count ≤ 32;
}
