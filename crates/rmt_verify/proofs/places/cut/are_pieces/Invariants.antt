use Rattle.std.proofs.Common.{◌≡◌, ◌++◌, map, take}
use Rattle.rmt_bits.specs.declared.lane.Lane.{Lane}
use Rattle.rmt_phv.specs.Packing.{pieces}
use Rattle.rmt_verify.proofs.places.cut.are_pieces.Given as goal

abbrev pub invariant-loop-lane : goal.invariant-loop-lane
invariant-loop-lane l = pieces l.width ≡ map (λ (x : Lane). x.len) (take l.lane-index l.lanes) ++ pieces l.left
