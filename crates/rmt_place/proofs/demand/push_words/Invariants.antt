use Rattle.std.proofs.Common.{◌≡◌, ◌++◌, map, take}
use Rattle.rmt_bits.specs.declared.lane.Lane.{Lane}
use Rattle.rmt_place.proofs.demand.push_words.Given as goal

-- the words of the lanes so far
abbrev pub invariant-loop-lane : goal.invariant-loop-lane
invariant-loop-lane l = l.words ≡ l.initial.words ++ map (λ (x : Lane). x.word) (take l.lane-index l.lanes)
