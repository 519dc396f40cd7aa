-- Where the fields of a program stand in a header vector.
use Rattle.std.specs.Prelude.{ℕ, List, [], slice_get, unwrap_or}
use Rattle.rmt_bits.specs.declared.lane.Lane.{Lane}

-- the lanes of a field, low piece first, where places have a list of lanes for each field by its number
abbrev pub lanes_of : List (List Lane) → ℕ → List Lane
lanes_of places f = unwrap_or (slice_get places f) []
