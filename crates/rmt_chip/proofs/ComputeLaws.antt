-- Bounds on what operations compute.
use Rattle.std.proofs.Common.{◌≡◌, ℕ, ◌+◌, ◌*◌, ◌/◌, ◌%◌, ◌^◌, ◌<◌, ◌≤◌, sym, ap, ◌∙◌, arith}
use Rattle.std.proofs.lemmas.Nat.{pow_pos, mod_low, shr_below}
use Rattle.std.proofs.Math.Pow.{pow_mono}
use Rattle.rmt_bits.specs.Bits.{slice}

-- ---- bits of a record

small_mod : (x k : ℕ) → x < 2 ^ k → x % 2 ^ k ≡ x
small_mod x k h = let e : x ≡ 0 * 2 ^ k + x = omega arith in ap (λ m. m % 2 ^ k) e ∙ mod_low 0 k x h

-- past its end
pub held_past : (n bits low len : ℕ) → n < 2 ^ bits → bits ≤ low → 0 ≡ slice n low len
held_past n bits low len h past =
    let room : 2 ^ bits ≤ 2 ^ low = pow_mono past in
    let least : 2 ^ (0 + low) ≡ 2 ^ low = ap (λ k. 2 ^ k) (let e : 0 + low ≡ low = omega arith in e) in
    let below : n / 2 ^ low < 2 ^ 0 = shr_below n 0 low (omega arith) in
    let none : n / 2 ^ low ≡ 0 = omega arith in
    sym (ap (λ m. m % 2 ^ len) none ∙ small_mod 0 len (pow_pos len))

-- up to its end
pub held_end : (n bits low here len : ℕ) → n < 2 ^ bits → here + low ≡ bits → here ≤ len → slice n low here ≡ slice n low len
held_end n bits low here len h e short =
    let below : n / 2 ^ low < 2 ^ here = shr_below n here low (let p = ap (λ k. 2 ^ k) e in omega arith) in
    let room : 2 ^ here ≤ 2 ^ len = pow_mono short in
    small_mod (n / 2 ^ low) here below ∙ sym (small_mod (n / 2 ^ low) len (omega arith))
