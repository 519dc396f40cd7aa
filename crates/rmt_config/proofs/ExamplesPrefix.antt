-- Rows of a prefix table of 8 bits, and rows that break one rule each.
use Rattle.std.specs.Prelude.{◌≡◌, ℕ, [], ◌∷◌, true, false, refl}
use Rattle.rmt_config.specs.declared.form.names.prefix_rows.Row.{Row}
use Rattle.rmt_config.specs.NamesForm.{each_later}
use Rattle.rmt_config.specs.PrefixRows.{have_lengths, row_goes_first, rows_keep, stand_once}

abbrev row : ℕ → ℕ → ℕ → Row
row key mask number = record { key = key; mask = mask; number = number }

-- 0x12/8, then 0x10/4 and 0x20/4 by number, then 0/0
pub rows_by_length : rows_keep 8 (row 0x12 0xff 7 ∷ row 0x20 0xf0 1 ∷ row 0x10 0xf0 3 ∷ row 0 0 2 ∷ []) ≡ true
rows_by_length = refl

-- no rows
pub no_rows : rows_keep 8 [] ≡ true
no_rows = refl

-- a mask that is no prefix
pub row_with_a_gap : have_lengths 8 (row 0x12 0xff 7 ∷ row 0x20 0xe8 1 ∷ []) ≡ false
row_with_a_gap = refl

-- the shorter prefix first
pub shorter_first : each_later (row_goes_first 8) (row 0x10 0xf0 1 ∷ row 0x12 0xff 7 ∷ []) ≡ false
shorter_first = refl

-- the greater number of two prefixes as long first
pub greater_first : each_later (row_goes_first 8) (row 0x10 0xf0 3 ∷ row 0x20 0xf0 1 ∷ []) ≡ false
greater_first = refl

-- a prefix twice, but not the same key under another mask
pub prefix_twice : stand_once 8 (row 0x10 0xf0 1 ∷ row 0x20 0xf0 2 ∷ row 0x10 0xf0 3 ∷ []) ≡ false
prefix_twice = refl

pub key_twice : rows_keep 8 (row 0x10 0xff 1 ∷ row 0x10 0xf0 2 ∷ []) ≡ true
key_twice = refl
