-- The numbers that words say.
use Rattle.std.specs.Prelude.{ℕ, ◌^◌, List, if◌then◌else◌, Option, drop}
use Rattle.rmt_bits.specs.Digits.{is_hex, is_hex_number}
pub use Rattle.rmt_bits.specs.Digits.{below, decimal, number_in}

-- hexadecimal digits behind 0x, or decimal digits
abbrev pub number : List ℕ → Option ℕ
number word = if is_hex_number word then number_in 16 is_hex (drop 2 word) else decimal word

-- a number that fits a field or a parameter of that width
abbrev pub number_of_width : ℕ → List ℕ → Option ℕ
number_of_width width word = below (2 ^ width) (number word)
