use Rattle.std.proofs.Common.{◌≡◌, ℕ, suc, ◌+◌, ◌-◌, ◌*◌, ◌/◌, ◌%◌, ◌^◌, ◌<◌, ◌≤◌, List, [], ◌∷◌, length, Some, sym, ap, subst, ◌∙◌, arith}
use Rattle.std.specs.Prelude.{slice_get}
use Rattle.std.proofs.lemmas.Bool.{eq-eqb, eqb-true, false≢true}
use Rattle.std.proofs.lemmas.Nat.{mul-le, pow-add, pow_pos}
use Rattle.std.proofs.Math.Nat.{div-eq_of_lt, lt-div-mul-add, lt_of_mul-lt-mul_right}
use Rattle.rmt_bits.specs.Bits.{number_of}
use Rattle.rmt_bits.proofs.ByteLaws.{AreBytes, number_from, number_of-lt}
use Rattle.rmt_chip.proofs.taken.are_bits.Goals as goal

pub returns-then-bits-eq0-clause-yes : goal.returns-then-bits-eq0-clause-yes
returns-then-bits-eq0-clause-yes c = λ yes.
    let bytes = c.args.bytes.now in
    let size : length bytes ≡ (c.args.bits + 8 - 1) / 8 = omega (arith, c.if-bytes-bits.false) in
    let whole : 8 * length bytes ≡ c.args.bits = omega (arith, c.if-bytes-bits.false, c.if-bits-eq0.true) in
    record { size = size; small = subst (λ n. number_of bytes < 2 ^ n) whole (number_of-lt bytes (λ i. (c.type_inv.bytes i).fits)) }

-- a number whose first byte has r bits
first_small : (first r : ℕ) (rest : List ℕ) → first < 2 ^ r → AreBytes rest → number_of (first ∷ rest) < 2 ^ (r + 8 * length rest)
first_small first r rest lt are =
    let e = number_from (256 * 0 + first) rest in
    let low = number_of-lt rest are in
    let split = pow-add 2 r (8 * length rest) in
    let least = pow_pos (8 * length rest) in
    let up : (first + 1) * 2 ^ (8 * length rest) ≤ 2 ^ r * 2 ^ (8 * length rest) = mul-le (first + 1) (2 ^ (8 * length rest)) (2 ^ r) (2 ^ (8 * length rest)) (omega arith) (omega arith) in
    let more : (first + 1) * 2 ^ (8 * length rest) ≡ first * 2 ^ (8 * length rest) + 2 ^ (8 * length rest) = omega arith in
    rw split (omega (arith, e, low, up, more))

by_first : (bytes : List ℕ) (first bits : ℕ) → slice_get bytes 0 ≡ Some first → AreBytes bytes → length bytes ≡ (bits + 7) / 8 → 0 < bits % 8 → first / 2 ^ (bits % 8) ≡ 0 → number_of bytes < 2 ^ bits
by_first [] first bits at are size some zero = absurd cc
by_first (b ∷ rest) first bits at are size some zero =
    let same : b ≡ first = cc in
    let small : b < 2 ^ (bits % 8) = below b (2 ^ (bits % 8)) (pow_pos (bits % 8)) (ap (λ n. n / 2 ^ (bits % 8)) same ∙ zero) in
    let all : bits % 8 + 8 * length rest ≡ bits = omega arith in
    subst (λ n. number_of (b ∷ rest) < 2 ^ n) all (first_small b (bits % 8) rest small (λ i. are (suc i)))
  where
    below : (x m : ℕ) → 0 < m → x / m ≡ 0 → x < m
    below x m some none = let b : x < x / m * m + m = lt-div-mul-add some in let z : x / m * m + m ≡ m = ap (λ n. n * m + m) none ∙ (let e : 0 * m + m ≡ m = omega arith in e) in subst (λ n. x < n) z b

pub returns-in-Some-clause-yes : goal.returns-in-Some-clause-yes
returns-in-Some-clause-yes c = λ yes.
    let bytes = c.args.bytes.now in
    let bits = c.args.bits in
    let first = c.in-Some.first.now in
    let zero : first / 2 ^ (bits % 8) ≡ 0 = eqb-true (first / 2 ^ (bits % 8)) 0 yes in
    let size : length bytes ≡ (bits + 8 - 1) / 8 = omega (arith, c.if-bytes-bits.false) in
    record { size = size; small = by_first bytes first bits (sym c.in-Some.ensures.value) (λ i. (c.type_inv.bytes i).fits) (omega (arith, c.if-bytes-bits.false)) (omega (arith, c.if-bits-eq0.false)) zero }

-- a number of so many bits has a first byte without the bits above them
low_first : (bytes : List ℕ) (first bits : ℕ) → slice_get bytes 0 ≡ Some first → length bytes ≡ (bits + 7) / 8 → 0 < bits % 8 → number_of bytes < 2 ^ bits → first / 2 ^ (bits % 8) ≡ 0
low_first [] first bits at size some small = absurd cc
low_first (b ∷ rest) first bits at size some small =
    let same : b ≡ first = cc in
    let all : bits ≡ bits % 8 + 8 * length rest = omega arith in
    let e = number_from (256 * 0 + b) rest in
    let split = pow-add 2 (bits % 8) (8 * length rest) in
    let most : number_of (b ∷ rest) < 2 ^ (bits % 8 + 8 * length rest) = subst (λ n. number_of (b ∷ rest) < 2 ^ n) all small in
    let below : b * 2 ^ (8 * length rest) < 2 ^ (bits % 8) * 2 ^ (8 * length rest) = omega (arith, e, most, split) in
    ap (λ n. n / 2 ^ (bits % 8)) (sym same) ∙ div-eq_of_lt (lt_of_mul-lt-mul_right (2 ^ (8 * length rest)) below)

pub returns-in-Some-clause-no : goal.returns-in-Some-clause-no
returns-in-Some-clause-no c = λ no are.
    let bytes = c.args.bytes.now in
    let bits = c.args.bits in
    let first = c.in-Some.first.now in
    let zero = low_first bytes first bits (sym c.in-Some.ensures.value) (omega (arith, c.if-bytes-bits.false)) (omega (arith, c.if-bits-eq0.false)) are.small in
    false≢true (sym no ∙ eq-eqb (first / 2 ^ (bits % 8)) 0 zero)
