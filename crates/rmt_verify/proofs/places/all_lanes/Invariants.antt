use Rattle.std.proofs.Common.{◌≡◌, List, take}
use Rattle.std.specs.List.{flat_map}
use Rattle.rmt_bits.specs.declared.lane.Lane.{Lane}
use Rattle.rmt_verify.proofs.places.all_lanes.Given as goal

abbrev pub invariant-loop-lanes : goal.invariant-loop-lanes
invariant-loop-lanes l = l.all.items ≡ flat_map (λ (ls : List Lane). ls) (take l.lanes-index l.places)
