-- What `probe` prints of a run of the chip: the vectors in flight at a cycle.
use Rattle.std.specs.Prelude.{ℕ, zero, suc, ◌*◌, ◌/◌, ◌%◌, ◌^◌, ◌==◌, List, [], ◌∷◌, ◌++◌, codes, slice_index, if◌then◌else◌}
use Rattle.std.specs.Fmt.{decimal}
use Rattle.std.specs.List.{flat_map, range_with_len}
use Rattle.rmt_bits.specs.Words.{word_size}
use Rattle.rmt_config.specs.Life.{Words}

-- so many of a number's lowest hexadecimal digits, the highest first
abbrev pub hex_text : ℕ → ℕ → List ℕ
hex_text zero n = []
hex_text (suc places) n = slice_index (codes "0123456789abcdef") (n / 2 ^ (4 * places) % 16) ∷ hex_text places n

-- ` W:H` with 2, 4 or 8 digits, by the size of the word; nothing for a word that is 0
abbrev pub word_text : ℕ → ℕ → List ℕ
word_text w n = if n == 0 then [] else codes " " ++ (decimal w ++ (codes ":" ++ hex_text (word_size w / 4) n))

-- the words of numbers below n
unfoldable pub words_below : Words → ℕ → List ℕ
words_below words n = flat_map (λ w. word_text w (words w)) (range_with_len 0 n)

-- `N AGE` and the 224 words
abbrev pub vector_line : ℕ → ℕ → Words → List ℕ
vector_line number age words = decimal number ++ (codes " " ++ (decimal age ++ (words_below words 224 ++ codes "\n")))
