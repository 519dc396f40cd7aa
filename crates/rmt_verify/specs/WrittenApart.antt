-- Fields that one action writes.
use Rattle.std.specs.Prelude.{◌≢◌, ℕ, List}
use Rattle.rmt_bits.specs.declared.lane.Lane.{Lane}
use Rattle.rmt_ast.specs.Places.{lanes_of}
use Rattle.rmt_phv.specs.Places.{ShareNoWord}

-- two fields are one, or no word holds a piece of both
abbrev pub AreApartFrom : List (List Lane) → ℕ → ℕ → Type 0
AreApartFrom places f g = f ≢ g → ShareNoWord (lanes_of places f) (lanes_of places g)
