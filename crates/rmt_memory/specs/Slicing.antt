-- Rows that may be missing, in vectors of bits: for each nibble of a key and value of it the rows that the value leaves.
use Rattle.std.specs.Prelude.{◌≡◌, ℕ, ◌+◌, ◌*◌, ◌/◌, ◌%◌, ◌^◌, ◌<◌, ◌≤◌, ◌==◌, Bool, List, length, All, Option, Some, None, is_some, IsSomeAnd, bit_and, slice_index, slice_index_or, slice_set, if◌then◌else◌}
use Rattle.std.specs.Int.{bit_at}
use Rattle.rmt_bits.specs.Bits.{slice}
use Rattle.rmt_bits.specs.Grouping.{Compared}
use Rattle.rmt_memory.specs.declared.sliced.Sliced.{Sliced}
use Rattle.rmt_memory.specs.KeyWords.{Has}

-- row i is there, and a key has it
abbrev pub HasRow : List ℕ → List (Option Compared) → ℕ → Type 0
HasRow key rows i = IsSomeAnd (slice_index_or rows i None) (Has key)

-- nibble n of a number in words of 40 bits
abbrev pub nibble : List ℕ → ℕ → ℕ
nibble words n = slice (slice_index words (n / 10)) (4 * (n % 10)) 4

-- whether a row is left by value v of nibble n, where the vector is number 16 * n + v
abbrev pub leaves : Compared → ℕ → Bool
leaves e vector = bit_and (vector % 16) (nibble e.masks (vector / 16)) == nibble e.values (vector / 16)

abbrev pub bit_if : Bool → ℕ
bit_if on = if on then 1 else 0

-- the bit of a row in a vector, where vectors of that many words of 64 bits stand one behind another
abbrev pub bit_in : List ℕ → ℕ → ℕ → ℕ → ℕ
bit_in words width vector row = bit_at (slice_index words (vector * width + row / 64)) (row % 64)

-- a row has that many words of 40 bits
pub record RowFits (words : ℕ) (e : Compared) : Type 0 where
  pub masks : length e.masks ≡ words
  pub values : length e.values ≡ words
  pub small_masks : All (λ w. w < 2 ^ 40) e.masks
  pub small_values : All (λ w. w < 2 ^ 40) e.values

-- vectors that stand for the rows that a sight shows, some of them missing
pub record BitsFor (sight : ℕ) (rows : List (Option Compared)) (words width : ℕ) (bits : List ℕ) : Type 0 where
  pub room : length rows ≤ 64 * width
  pub fit : (r : ℕ) (e : Compared) → slice_index_or rows r None ≡ Some e → RowFits words e
  pub there : (r : ℕ) → r < 64 * width → bit_in bits width (160 * words + sight) r ≡ bit_if (is_some (slice_index_or rows r None))
  pub left : (r : ℕ) (e : Compared) (vector : ℕ) → slice_index_or rows r None ≡ Some e → vector < 160 * words → bit_in bits width vector r ≡ bit_if (leaves e vector)

abbrev pub StandsFor : ℕ → List (Option Compared) → Sliced → Type 0
StandsFor sight rows s = BitsFor sight rows s.words s.width s.bits.items

-- bit j of word `at` is set in the vector of a sight and in those of the first nibbles, which begin at some words
abbrev pub IsOn : Sliced → ℕ → List ℕ → ℕ → ℕ → ℕ → Type 0
IsOn s sight vectors count at j =
    (bit_at (slice_index s.bits.items ((160 * s.words + sight) * s.width + at)) j ≡ 1) × ((n : ℕ) → n < count → bit_at (slice_index s.bits.items (slice_index vectors n + at)) j ≡ 1)

-- that of a row is, with all nibbles
abbrev pub OnIn : Sliced → ℕ → List ℕ → ℕ → Type 0
OnIn s sight vectors row = IsOn s sight vectors (10 * s.words) (row / 64) (row % 64)

-- a row is another under each sight, or is missing; all other rows stay
pub record RowSet (row : ℕ) (shown : ℕ → Option Compared) (old new : Sliced) : Type 0 where
  pub words : new.words ≡ old.words
  pub width : new.width ≡ old.width
  pub stands : (sight : ℕ) (rows : List (Option Compared)) → sight < 3 → StandsFor sight rows old → row < length rows → StandsFor sight (slice_set rows row (shown sight)) new
