use Rattle.std.proofs.lemmas.Simd.{map-map}
use Rattle.rmt_check.proofs.rules.name_twice.meta_field_twice.Goals as goal

pub returns : goal.returns
returns c = rw (← c.in_ok-fields.ensures, map-map, ← c.as_slice.ensures.value) c.repeated_names.ensures
