use Rattle.std.proofs.Common.{◌≡◌, ◌≤◌, drop, fold}
use Rattle.rmt_bits.specs.Digits.{appended, number_of_digits}
use Rattle.rmt_bits.proofs.digits.number_up_to.Given as goal

abbrev pub invariant-loop-digit : goal.invariant-loop-digit
invariant-loop-digit l = record {
  number : fold (appended l.base) l.value (drop l.digit-index l.digits) ≡ number_of_digits l.base l.digits;
  fits : l.value ≤ l.fn.last;
}
