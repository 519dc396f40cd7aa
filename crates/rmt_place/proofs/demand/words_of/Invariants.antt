use Rattle.std.proofs.Common.{◌≡◌, take}
use Rattle.rmt_deps.specs.Edges.{words_of_fields}
use Rattle.rmt_place.proofs.demand.words_of.Given as goal

-- the words of the fields so far
abbrev pub invariant-loop-field : goal.invariant-loop-field
invariant-loop-field l = l.words ≡ words_of_fields l.places (take l.field-index l.fields)
