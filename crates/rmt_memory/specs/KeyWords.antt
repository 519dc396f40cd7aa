-- What the rows of a ternary part compare, word by word.
use Rattle.std.specs.Prelude.{◌≡◌, ℕ, ◌/◌, ◌%◌, ◌^◌, zero, suc, List, [], ◌∷◌, bit_and}
use Rattle.rmt_bits.specs.Grouping.{Compared}

-- a number in that many words of 40 bits, the lowest first
abbrev pub words_of : ℕ → ℕ → List ℕ
words_of zero n = []
words_of (suc count) n = n % 2 ^ 40 ∷ words_of count (n / 2 ^ 40)

-- a key in words: a key has at most 640 bits
unfoldable pub words_of_key : ℕ → List ℕ
words_of_key key = words_of 16 key

-- the bits of a key that masks leave, word by word
abbrev pub masked : List ℕ → List ℕ → List ℕ
masked [] key = []
masked (m ∷ ms) [] = []
masked (m ∷ ms) (k ∷ ks) = bit_and k m ∷ masked ms ks

-- a row that a key has
abbrev pub Has : List ℕ → Compared → Type 0
Has key r = masked r.masks key ≡ r.values
