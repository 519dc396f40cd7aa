-- The words of the header vector.
use Rattle.std.specs.Prelude.{ℕ, nat_lt, if◌then◌else◌, ◌≡◌, ◌<◌, ◌^◌, List, length, slice_index}

-- the bits of a word: 64 words of 8, then 96 of 16, then 64 of 32
abbrev pub word_size : ℕ → ℕ
word_size word = if nat_lt word 64 then 8 else (if nat_lt word 160 then 16 else 32)

-- the words of a whole vector: 224 of them, each within its size
pub record AreWords (words : List ℕ) : Type 0 where
  pub all_there : length words ≡ 224
  pub within_size : (w : ℕ) → slice_index words w < 2 ^ word_size w
