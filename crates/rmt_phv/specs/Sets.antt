-- Sets of numbers as lists of blocks of 64 bits.
use Rattle.std.specs.Prelude.{◌≡◌, ℕ, ◌/◌, ◌%◌, ◌==◌, List, Bool, true, slice_index}
use Rattle.std.specs.Int.{bit_at}

-- a number is in a set: its bit is 1
abbrev pub has : List ℕ → ℕ → Bool
has set n = bit_at (slice_index set (n / 64)) (n % 64) == 1

-- some number is in both
abbrev pub Meet : List ℕ → List ℕ → Type 0
Meet a b = (n : ℕ) × ((has a n ≡ true) × (has b n ≡ true))
