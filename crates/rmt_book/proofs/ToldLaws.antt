-- What the bytes of a cell tell.
use Rattle.std.proofs.Common.{◌≡◌, ℕ, ◌+◌, ◌-◌, ◌*◌, ◌/◌, ◌%◌, ◌^◌, ◌<◌, ◌≤◌, List, [], ◌∷◌, ◌++◌, length, get_or, drop, min, sum, add-one, inl, inr, append_assoc, subst, sym, ap, ◌∙◌, arith}
use Rattle.std.proofs.lemmas.Bool.{cases_lt}
use Rattle.std.proofs.lemmas.List.Sums.{sum_by-cons}
use Rattle.std.proofs.lemmas.Nat.{shr-shr}
use Rattle.std.proofs.Math.Seq.{drop-cons}
use Rattle.std.proofs.Math.Nat.{mod-eq_of_lt}
use Rattle.std.proofs.Math.Pow.{high_ones, ones_lt, pow_mono}
use Rattle.rmt_bits.specs.Bits.{slice, number_of, bits_of_bytes}
use Rattle.rmt_bits.proofs.BitLaws.{high_part-lt, three-middle}
use Rattle.rmt_bits.proofs.ByteLaws.{AreBytes, number_of-lt}
use Rattle.rmt_ast.specs.declared.program.Test.{Test}
use Rattle.rmt_config.specs.NamesForm.{args_of_data, tests_of_key}

-- the widths from one on
pub width-first : (ws : List ℕ) (i : ℕ) → i < length ws → drop i ws ≡ get_or ws i 0 ∷ drop (i + 1) ws
width-first ws i lt = drop-cons ws i 0 lt ∙ ap (λ n. get_or ws i 0 ∷ drop n ws) (sym (add-one i))

-- the bits of a run that reaches above the bytes
pub bits-there : (bytes : List ℕ) (low len count : ℕ) → AreBytes bytes → low < 8 * length bytes → count ≡ min (8 * length bytes - low) len
    → bits_of_bytes bytes (8 * length bytes - low - count) count ≡ slice (number_of bytes) low len
bits-there bytes low len count are inside is =
    let all = 8 * length bytes in
    let n = number_of bytes in
    let at : all - (all - low - count + count) ≡ low = omega (arith, inside, is) in
    let small : n / 2 ^ low < 2 ^ (all - low) = high_part-lt n low all (omega arith) (number_of-lt bytes are) in
    let short : 2 ^ count ≤ 2 ^ len = pow_mono (let l : count ≤ len = omega (arith, is) in l) in
    ap (λ k. slice n k count) at
    ∙ (elim (cases_lt (all - low) len) as (λ _. n / 2 ^ low % 2 ^ count ≡ n / 2 ^ low % 2 ^ len) [
      | inl less ↦
          let e : count ≡ all - low = omega (arith, is, less) in
          let room : n / 2 ^ low < 2 ^ count = subst (λ k. n / 2 ^ low < 2 ^ k) (sym e) small in
          mod-eq_of_lt room ∙ sym (mod-eq_of_lt (let l : n / 2 ^ low < 2 ^ len = omega (arith, room, short) in l))
      | inr more ↦ let e : count ≡ len = omega (arith, is, more) in ap (λ k. n / 2 ^ low % 2 ^ k) e
    ])

-- a run of bits in a number of ones
pub ones-slice : (bits low len : ℕ) → low + len ≤ bits → 2 ^ len - 1 ≡ slice (2 ^ bits - 1) low len
ones-slice bits low len within =
    let r = bits - (low + len) in
    let high = high_ones r (low + len) in
    let middle = high_ones len low in
    let e1 : r + (low + len) ≡ bits = omega (arith, within) in
    let e2 : len + low ≡ low + len = omega arith in
    let h1 : 2 ^ bits - 2 ^ (low + len) ≡ (2 ^ r - 1) * 2 ^ (low + len) = subst (λ n. 2 ^ n - 2 ^ (low + len) ≡ (2 ^ r - 1) * 2 ^ (low + len)) e1 high in
    let h2 : 2 ^ (low + len) - 2 ^ low ≡ (2 ^ len - 1) * 2 ^ low = subst (λ n. 2 ^ n - 2 ^ low ≡ (2 ^ len - 1) * 2 ^ low) e2 middle in
    let m1 : 2 ^ (low + len) ≤ 2 ^ bits = pow_mono within in
    let m2 : 2 ^ low ≤ 2 ^ (low + len) = pow_mono (let l : low ≤ low + len = omega arith in l) in
    let m3 = ones_lt low in
    let whole : 2 ^ bits - 1 ≡ (2 ^ r - 1) * 2 ^ (low + len) + (2 ^ len - 1) * 2 ^ low + (2 ^ low - 1) = omega (arith, h1, h2, m1, m2, m3) in
    sym (ap (λ n. slice n low len) whole ∙ three-middle (2 ^ r - 1) low len (2 ^ len - 1) (2 ^ low - 1) (ones_lt len) (ones_lt low))

-- the tests of fields, one after another
pub tests-more : (tests : List Test) (w : ℕ) (ws : List ℕ) (key mask low at value part : ℕ) (rest : List Test) → low ≡ sum (w ∷ ws) → at ≡ low - w → value ≡ slice key at w → part ≡ slice mask at w
    → tests ++ tests_of_key (w ∷ ws) key mask ≡ rest → (tests ++ record { value = value; mask = part } ∷ []) ++ tests_of_key ws key mask ≡ rest
tests-more tests w ws key mask low at value part rest is here v m so_far =
    let split : sum (w ∷ ws) ≡ w + sum ws = sum_by-cons (λ (n : ℕ). n) w ws in
    let e : at ≡ sum ws = omega (arith, is, here, split) in
    append_assoc tests (record { value = value; mask = part } ∷ []) (tests_of_key ws key mask)
    ∙ ap (λ a. tests ++ record { value = a; mask = part } ∷ tests_of_key ws key mask) (v ∙ ap (λ n. slice key n w) e)
    ∙ ap (λ a. tests ++ record { value = slice key (sum ws) w; mask = a } ∷ tests_of_key ws key mask) (m ∙ ap (λ n. slice mask n w) e)
    ∙ so_far

-- the arguments, one after another
pub args-more : (args : List ℕ) (w : ℕ) (ws : List ℕ) (held low value : ℕ) (rest : List ℕ) → value ≡ slice held low w
    → args ++ args_of_data (w ∷ ws) (held / 2 ^ low) ≡ rest → (args ++ value ∷ []) ++ args_of_data ws (held / 2 ^ (low + w)) ≡ rest
args-more args w ws held low value rest v so_far =
    append_assoc args (value ∷ []) (args_of_data ws (held / 2 ^ (low + w)))
    ∙ ap (λ a. args ++ a ∷ args_of_data ws (held / 2 ^ (low + w))) v
    ∙ ap (λ n. args ++ slice held low w ∷ args_of_data ws n) (sym (shr-shr held low w))
    ∙ so_far
