-- Laws of slices and deposits.
use Rattle.std.proofs.Common.{◌≡◌, ℕ, ◌+◌, ◌-◌, ◌*◌, ◌/◌, ◌%◌, ◌^◌, ◌<◌, ◌≤◌, ◌==◌, false, sym, ap, ◌∙◌, arith}
use Rattle.std.specs.Prelude.{bit_and}
use Rattle.std.proofs.lemmas.Nat.{and_shr, and_mod, pow_pos, pow-add, shr_below, mod_below, mul-add-lt, shr_split, shr-shr, shr_high, mod_low, field_of, mod-pow-add}
use Rattle.std.proofs.Math.Pow.{mod-mod-pow, pow_mono}
use Rattle.std.proofs.Math.Nat.{div-eq_of_lt, div-one, mod-eq_of_lt}
use Rattle.rmt_bits.specs.Bits.{slice, deposit}

-- a slice has no more bits than its length
pub slice-lt : (v low len : ℕ) → slice v low len < 2 ^ len
slice-lt v low len = mod_below (v / 2 ^ low) (2 ^ len) (pow_pos len)

-- what stands below the end of the deposited bits
pub low_part-lt : (v low len x : ℕ) → x < 2 ^ len → x * 2 ^ low + v % 2 ^ low < 2 ^ (low + len)
low_part-lt v low len x h =
    let e : 2 ^ (low + len) ≡ 2 ^ low * 2 ^ len = pow-add 2 low len in
    rw e (mul-add-lt x (2 ^ low) (v % 2 ^ low) (2 ^ len) h (mod_below v (2 ^ low) (pow_pos low)))

-- a number of some bits, with a high part and a low part
pub parts-lt : (a r k size : ℕ) → k ≤ size → a < 2 ^ (size - k) → r < 2 ^ k → a * 2 ^ k + r < 2 ^ size
parts-lt a r k size within ha hr =
    let e : 2 ^ size ≡ 2 ^ k * 2 ^ (size - k) = ap (λ n. 2 ^ n) (let m : size ≡ k + (size - k) = omega arith in m) ∙ pow-add 2 k (size - k) in
    rw e (mul-add-lt a (2 ^ k) r (2 ^ (size - k)) ha hr)

pub high_part-lt : (v k size : ℕ) → k ≤ size → v < 2 ^ size → v / 2 ^ k < 2 ^ (size - k)
high_part-lt v k size within h =
    shr_below v (size - k) k (let e : size - k + k ≡ size = omega arith in rw e h)

-- a deposit stays within the bits of what it is made in
pub deposit-lt : (v low len x size : ℕ) → low + len ≤ size → v < 2 ^ size → x < 2 ^ len → deposit v low len x < 2 ^ size
deposit-lt v low len x size within hv hx =
    let h = parts-lt (v / 2 ^ (low + len)) (x * 2 ^ low + v % 2 ^ low) (low + len) size within (high_part-lt v (low + len) size within hv) (low_part-lt v low len x hx) in
    omega (arith, h)

-- a number moved up
pub shl-lt : (x low len size : ℕ) → low + len ≤ size → x < 2 ^ len → x * 2 ^ low < 2 ^ size
shl-lt x low len size within h =
    let one = deposit-lt 0 low len x size within (pow_pos size) h in
    omega (arith, one)

-- a number in three parts, taken apart
abbrev pub three : ℕ → ℕ → ℕ → ℕ → ℕ → ℕ
three high low len x rest = high * 2 ^ (low + len) + x * 2 ^ low + rest

pub three_is : (high low len x rest : ℕ) → three high low len x rest ≡ (high * 2 ^ len + x) * 2 ^ low + rest
three_is high low len x rest = rw (pow-add 2 low len) (omega arith)

pub three-high : (high low len x rest : ℕ) → x < 2 ^ len → rest < 2 ^ low → three high low len x rest / 2 ^ (low + len) ≡ high
three-high high low len x rest hx hr =
    let small : x * 2 ^ low + rest < 2 ^ (low + len) = rw (pow-add 2 low len) (mul-add-lt x (2 ^ low) rest (2 ^ len) hx hr) in
    let e : three high low len x rest ≡ high * 2 ^ (low + len) + (x * 2 ^ low + rest) = omega arith in
    rw e (shr_high high (low + len) (x * 2 ^ low + rest) small)

pub three-middle : (high low len x rest : ℕ) → x < 2 ^ len → rest < 2 ^ low → three high low len x rest / 2 ^ low % 2 ^ len ≡ x
three-middle high low len x rest hx hr =
    rw (three_is high low len x rest, shr_high (high * 2 ^ len + x) low rest hr) (mod_low high len x hx)

pub three-low : (high low len x rest : ℕ) → x < 2 ^ len → rest < 2 ^ low → three high low len x rest % 2 ^ low ≡ rest
three-low high low len x rest hx hr =
    rw (three_is high low len x rest) (mod_low (high * 2 ^ len + x) low rest hr)

-- a deposit leaves what is above it and below it
pub deposit-high : (v low len x : ℕ) → x < 2 ^ len → deposit v low len x / 2 ^ (low + len) ≡ v / 2 ^ (low + len)
deposit-high v low len x h = three-high (v / 2 ^ (low + len)) low len x (v % 2 ^ low) h (mod_below v (2 ^ low) (pow_pos low))

pub deposit-low : (v low len x : ℕ) → x < 2 ^ len → deposit v low len x % 2 ^ low ≡ v % 2 ^ low
deposit-low v low len x h = three-low (v / 2 ^ (low + len)) low len x (v % 2 ^ low) h (mod_below v (2 ^ low) (pow_pos low))

-- what was deposited is read back
pub slice-deposit_same : (v low len x : ℕ) → x < 2 ^ len → slice (deposit v low len x) low len ≡ x
slice-deposit_same v low len x h = three-middle (v / 2 ^ (low + len)) low len x (v % 2 ^ low) h (mod_below v (2 ^ low) (pow_pos low))

-- a slice of numbers that agree above or below it
pub slice-from_high : (v w low len at : ℕ) → at ≤ low → v / 2 ^ at ≡ w / 2 ^ at → slice v low len ≡ slice w low len
slice-from_high v w low len at within e =
    let split : low ≡ at + (low - at) = omega arith in
    let by : (n : ℕ) → n / 2 ^ low ≡ n / 2 ^ at / 2 ^ (low - at) = λ n. ap (λ k. n / 2 ^ k) split ∙ sym (shr-shr n at (low - at)) in
    let same : v / 2 ^ low ≡ w / 2 ^ low = by v ∙ ap (λ n. n / 2 ^ (low - at)) e ∙ sym (by w) in
    ap (λ n. n % 2 ^ len) same

pub slice-from_low : (v w low len at : ℕ) → low + len ≤ at → v % 2 ^ at ≡ w % 2 ^ at → slice v low len ≡ slice w low len
slice-from_low v w low len at within e =
    let split : at ≡ at - (len + low) + (len + low) = omega arith in
    let short : (n : ℕ) → n % 2 ^ (len + low) ≡ n % 2 ^ at % 2 ^ (len + low) = λ n. sym (ap (λ k. n % 2 ^ k % 2 ^ (len + low)) split ∙ mod-mod-pow n (at - (len + low)) (len + low)) in
    let by : (n : ℕ) → slice n low len ≡ n % 2 ^ at % 2 ^ (len + low) / 2 ^ low = λ n. sym (field_of n len low) ∙ ap (λ k. k / 2 ^ low) (short n) in
    by v ∙ ap (λ n. n % 2 ^ (len + low) / 2 ^ low) e ∙ sym (by w)

pub mod-low : (n low b : ℕ) → n % 2 ^ (low + b) % 2 ^ low ≡ n % 2 ^ low
mod-low n low b =
    let turned : low + b ≡ b + low = omega arith in
    ap (λ k. n % 2 ^ k % 2 ^ low) turned ∙ mod-mod-pow n b low

pub mod-from_low : (v w at low : ℕ) → low ≤ at → v % 2 ^ at ≡ w % 2 ^ at → v % 2 ^ low ≡ w % 2 ^ low
mod-from_low v w at low within e =
    let split : at ≡ low + (at - low) = omega arith in
    let by : (n : ℕ) → n % 2 ^ at % 2 ^ low ≡ n % 2 ^ low = λ n. ap (λ k. n % 2 ^ k % 2 ^ low) split ∙ mod-low n low (at - low) in
    sym (by v) ∙ ap (λ n. n % 2 ^ low) e ∙ by w

-- bits above or below a deposit are as before
pub slice-deposit_above : (v low len x at size : ℕ) → x < 2 ^ len → low + len ≤ at → slice (deposit v low len x) at size ≡ slice v at size
slice-deposit_above v low len x at size h apart = slice-from_high (deposit v low len x) v at size (low + len) apart (deposit-high v low len x h)

pub slice-deposit_below : (v low len x at size : ℕ) → x < 2 ^ len → at + size ≤ low → slice (deposit v low len x) at size ≡ slice v at size
slice-deposit_below v low len x at size h apart = slice-from_low (deposit v low len x) v at size low apart (deposit-low v low len x h)

-- a long slice is two short ones
pub slice-add : (v low a b : ℕ) → slice v low (a + b) ≡ slice v (low + b) a * 2 ^ b + slice v low b
slice-add v low a b = mod-pow-add (v / 2 ^ low) a b ∙ ap (λ n. n % 2 ^ a * 2 ^ b + slice v low b) (shr-shr v low b)

-- two deposits side by side are one
pub deposit-add : (v low a b y z : ℕ) → y < 2 ^ a → z < 2 ^ b → deposit (deposit v (low + b) a y) low b z ≡ deposit v low (a + b) (y * 2 ^ b + z)
deposit-add v low a b y z hy hz =
    let inner = deposit v (low + b) a y in
    let r : inner % 2 ^ (low + b) ≡ v % 2 ^ (low + b) = deposit-low v (low + b) a y hy in
    let split : inner / 2 ^ (low + b) * 2 ^ (low + b) + inner % 2 ^ (low + b) ≡ inner = shr_split inner (low + b) in
    let top : low + b + a ≡ low + (a + b) = omega arith in
    let whole : inner ≡ v / 2 ^ (low + (a + b)) * 2 ^ (low + (a + b)) + y * 2 ^ (low + b) + v % 2 ^ (low + b) =
    ap (λ k. v / 2 ^ k * 2 ^ k + y * 2 ^ (low + b) + v % 2 ^ (low + b)) top in
    let least : inner % 2 ^ low ≡ v % 2 ^ low = sym (mod-low inner low b) ∙ ap (λ n. n % 2 ^ low) r ∙ mod-low v low b in
    let mid : y * 2 ^ (low + b) ≡ y * 2 ^ b * 2 ^ low = rw (pow-add 2 low b) (omega arith) in
    omega (arith, split, whole, least, r, mid)

-- a slice of a slice, and one of all bits
pub slice-slice : (v low len from n : ℕ) → from + n ≤ len → slice (slice v low len) from n ≡ slice v (low + from) n
slice-slice v low len from n within =
    let x = v / 2 ^ low in
    let split : len ≡ len - (n + from) + (n + from) = omega arith in
    let short : x % 2 ^ len % 2 ^ (n + from) ≡ x % 2 ^ (n + from) = ap (λ k. x % 2 ^ k % 2 ^ (n + from)) split ∙ mod-mod-pow x (len - (n + from)) (n + from) in
    sym (field_of (x % 2 ^ len) n from) ∙ ap (λ k. k / 2 ^ from) short ∙ field_of x n from ∙ ap (λ k. k % 2 ^ n) (shr-shr v low from)

pub slice-whole : (x w : ℕ) → x < 2 ^ w → slice x 0 w ≡ x
slice-whole x w lt = ap (λ n. n % 2 ^ w) (div-one x) ∙ mod-eq_of_lt lt

-- a deposit right behind the bits of a number that was moved up
pub deposit-multiple : (n low len x : ℕ) → deposit (n * 2 ^ (low + len)) low len x ≡ (n * 2 ^ len + x) * 2 ^ low
deposit-multiple n low len x =
    let whole : n * 2 ^ (low + len) ≡ n * 2 ^ (low + len) + 0 = omega arith in
    let turned : n * 2 ^ (low + len) ≡ n * 2 ^ len * 2 ^ low + 0 = rw (pow-add 2 low len) (omega arith) in
    let high : n * 2 ^ (low + len) / 2 ^ (low + len) ≡ n = ap (λ m. m / 2 ^ (low + len)) whole ∙ shr_high n (low + len) 0 (pow_pos (low + len)) in
    let below : n * 2 ^ (low + len) % 2 ^ low ≡ 0 = ap (λ m. m % 2 ^ low) turned ∙ mod_low (n * 2 ^ len) low 0 (pow_pos low) in
    rw (high, below) (omega (arith, turned))

-- a mask of 16 bits has no later bit
pub no_bit-above : (mask n : ℕ) → mask < 2 ^ 16 → 16 ≤ n → (mask / 2 ^ n % 2 == 1) ≡ false
no_bit-above mask n small far =
    let more : 2 ^ 16 ≤ 2 ^ n = pow_mono far in
    let below : mask < 2 ^ n = omega arith in
    ap (λ m. m % 2 == 1) (div-eq_of_lt below)

-- a run of the bits that two numbers have in common
pub slice-and : (a b low len : ℕ) → slice (bit_and a b) low len ≡ bit_and (slice a low len) (slice b low len)
slice-and a b low len = ap (λ n. n % 2 ^ len) (and_shr a b low) ∙ and_mod (a / 2 ^ low) (b / 2 ^ low) len

-- a sum turned round
pub turned : (a b m : ℕ) → a + m * b ≡ b * m + a
turned a b m = omega arith
