use Rattle.std.proofs.Common.{◌≡◌, ◌++◌, take}
use Rattle.rmt_phv.specs.Places.{high_first}
use Rattle.rmt_verify.proofs.places.lookup.are_high_first.Given as goal

abbrev pub invariant-loop-field : goal.invariant-loop-field
invariant-loop-field l = l.lanes ≡ high_first l.places (take l.field-index l.fields) ++ l.rest
