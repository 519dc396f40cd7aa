-- Sets that have the numbers of a list.
use Rattle.std.specs.Prelude.{◌≡◌, ℕ, List}
use Rattle.rmt_bits.specs.Members.{is_among}
use Rattle.rmt_phv.specs.Sets.{has}

-- a set has the numbers of a list, and no other
abbrev pub IsSet : List ℕ → List ℕ → Type 0
IsSet set numbers = (n : ℕ) → has set n ≡ is_among numbers n
