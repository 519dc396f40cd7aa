-- Memory formats that are worked by hand.
use Rattle.std.proofs.Common.{◌≡◌, ℕ, Bool, false, refl}
use Rattle.rmt_pack.specs.declared.format.Format.{Format}
use Rattle.rmt_pack.specs.declared.format.Need.{Need}
use Rattle.rmt_pack.specs.Formats.{exact_format}

abbrev need : ℕ → ℕ → ℕ → Bool → Need
need key held size counted = record { key = key; held = held; size = size; counted = counted }

abbrev exact : ℕ → ℕ → ℕ → ℕ → Format
exact k p quanta sram = record { width = k; per = p; quanta = quanta; sram = sram; tcam = 0 }

-- two keys of 48 bits lie in one block's row: 36 blocks in all
two_in_a_row : exact_format (need 48 0 65536 false) ≡ exact 1 2 9 4
two_in_a_row = refl

-- one of 104 bits fills a row: 72 blocks
one_fills_a_row : exact_format (need 104 0 65536 false) ≡ exact 1 1 18 4
one_fills_a_row = refl

-- six of 105 bits lie in seven blocks side by side: 84 blocks
six_in_seven : exact_format (need 105 0 65536 false) ≡ exact 7 6 3 28
six_in_seven = refl

seven_in_eight : exact_format (need 105 0 917504 false) ≡ exact 8 7 36 32
seven_in_eight = refl

five_in_four : exact_format (need 80 0 900000 false) ≡ exact 4 5 50 16
five_in_four = refl
