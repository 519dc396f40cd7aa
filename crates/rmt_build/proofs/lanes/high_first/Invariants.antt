use Rattle.std.proofs.Common.{◌≡◌, take}
use Rattle.rmt_phv.specs.Places.{high_first}
use Rattle.rmt_build.proofs.lanes.high_first.Given as goal

-- the lanes of the fields so far
abbrev pub invariant-loop-field : goal.invariant-loop-field
invariant-loop-field l = l.lanes ≡ high_first l.places (take l.field-index l.fields)
