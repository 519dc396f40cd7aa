use Rattle.std.proofs.Common.{◌≡◌, length}
use Rattle.rmt_bits.specs.Digits.{is_hex}
use Rattle.rmt_entries.specs.Numbers.{decimal, number_in}
use Rattle.rmt_entries.proofs.numbers.without_zeros.Given as goal

-- the digits that are left say the same numbers
abbrev pub invariant-loop-rest : goal.invariant-loop-rest
invariant-loop-rest l = record {
  hexadecimal : number_in 16 is_hex l.rest ≡ number_in 16 is_hex l.digits;
  decimal : decimal l.rest ≡ decimal l.digits;
}

abbrev pub decreases-loop-rest : goal.decreases-loop-rest
decreases-loop-rest l = length l.rest
