-- Marks of numbers in a table of bits: a number that was marked is found to be so, and so is each other number whose place is the same.
use Rattle.std.specs.Prelude.{◌≡◌, ℕ, ◌-◌, ◌/◌, ◌%◌, ◌<◌, ◌==◌, List, Bool, length, slice_index, Contains}
use Rattle.std.specs.Int.{bit_at}
use Rattle.std.specs.Int.Bits.{bit_and}

-- the word of a table in which a number is marked
abbrev pub word_of : List ℕ → ℕ → ℕ
word_of words n = bit_and (n / 64) (length words - 1)

-- whether a number is marked
abbrev pub is_marked : List ℕ → ℕ → Bool
is_marked words n = bit_at (slice_index words (word_of words n)) (n % 64) == 1

-- each number that stands twice in a list is among others
abbrev pub RepeatsAreIn : List ℕ → List ℕ → Type 0
RepeatsAreIn others ns = (i j : ℕ) → i < j → j < length ns → slice_index ns i ≡ slice_index ns j → Contains others (slice_index ns j)
