-- Words that say a cycle.
use Rattle.std.proofs.Common.{◌≡◌, ℕ, ◌^◌, ◌≤◌, true, leb, List, Option, Some, None, length, ap, arith}
use Rattle.std.specs.Prelude.{SomeIff, ◌&&◌}
use Rattle.std.specs.List.{list_all}
use Rattle.std.proofs.Math.Nat.{pow-le-pow_right}
use Rattle.std.proofs.lemmas.Bool.{and_parts, leb-true}
use Rattle.rmt_bits.specs.Digits.{is_digit, number_of_digits}
use Rattle.rmt_bits.proofs.DigitLaws.{number_of_digits-lt}
use Rattle.rmt_core.specs.Commands.{cycle_of, is_number}

-- nine digits say at most the last cycle
pub says_cycle : (word : List ℕ) (o : Option ℕ) → is_number 9 word ≡ true → SomeIff o (number_of_digits 10 word ≤ 999999999) (number_of_digits 10 word) → o ≡ cycle_of word
says_cycle word None is says =
    let parts = and_parts (leb 1 (length word) && leb (length word) 9) (list_all is_digit word) is in
    let few : length word ≤ 9 = leb-true (length word) 9 (and_parts (leb 1 (length word)) (leb (length word) 9) parts.0).1 in
    let most : 10 ^ length word ≤ 10 ^ 9 = pow-le-pow_right (omega arith) few in
    absurd (says (omega (arith, most, number_of_digits-lt word parts.1)))
says_cycle word (Some n) is says = rw is (ap Some says.1)
