-- Decimal and hexadecimal digits, and the numbers that they say.
use Rattle.std.specs.Prelude.{ℕ, ◌+◌, ◌-◌, ◌*◌, List, Bool, Option, Some, None, ◌==◌, ◌&&◌, ◌||◌, not, nat_le, nat_lt, if◌then◌else◌, fold, length, slice_index}
use Rattle.std.specs.List.{list_all}

abbrev pub is_digit : ℕ → Bool
is_digit b = nat_le 48 b && nat_le b 57

-- a hexadecimal digit of either case
abbrev pub is_hex : ℕ → Bool
is_hex b = is_digit b || (nat_le 97 b && nat_le b 102) || (nat_le 65 b && nat_le b 70)

-- the value of a digit of either case
abbrev pub digit_value : ℕ → ℕ
digit_value b = if nat_le 97 b then b - 87 else (if nat_le 65 b then b - 55 else b - 48)

-- a number with one more digit behind it
abbrev pub appended : ℕ → ℕ → ℕ → ℕ
appended base value digit = value * base + digit_value digit

-- the number that digits say in a base, the first one highest
abbrev pub number_of_digits : ℕ → List ℕ → ℕ
number_of_digits base digits = fold (appended base) 0 digits

-- a text that begins with 0x; past its end a text has the byte 0
abbrev pub is_hex_number : List ℕ → Bool
is_hex_number text = slice_index text 0 == 48 && slice_index text 1 == 120

-- the number of one or more digits, and of nothing else
abbrev pub number_in : ℕ → (ℕ → Bool) → List ℕ → Option ℕ
number_in base is_one digits = if not (length digits == 0) && list_all is_one digits then Some (number_of_digits base digits) else None

abbrev pub decimal : List ℕ → Option ℕ
decimal word = number_in 10 is_digit word

-- a number below a limit
abbrev pub below : ℕ → Option ℕ → Option ℕ
below limit None = None
below limit (Some n) = if nat_lt n limit then Some n else None
