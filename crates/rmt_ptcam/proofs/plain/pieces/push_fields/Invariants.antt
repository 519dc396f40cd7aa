use Rattle.std.proofs.Common.{◌≡◌, ◌++◌, ◌+◌, drop}
use Rattle.rmt_config.specs.LaneForm.{bits_of_lanes}
use Rattle.rmt_ptcam.specs.Plain.{bits_from}
use Rattle.rmt_phv.specs.Places.{high_first}
use Rattle.rmt_ptcam.proofs.plain.pieces.push_fields.Given as goal

abbrev pub invariant-loop-field : goal.invariant-loop-field
invariant-loop-field l = record {
  bits : l.from + bits_of_lanes (high_first l.places (drop l.field-index l.fields)) ≡ bits_of_lanes (high_first l.places l.fields);
  pushed : l.extracts ++ bits_from l.from (high_first l.places (drop l.field-index l.fields)) ≡ l.initial.extracts ++ bits_from 0 (high_first l.places l.fields);
}
