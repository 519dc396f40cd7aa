-- Numbers modulo two to a width of at most 128.
use Rattle.std.proofs.Common.{◌≡◌, ℕ, ◌+◌, ◌-◌, ◌*◌, ◌/◌, ◌%◌, ◌^◌, ◌<◌, ◌≤◌, sym, ap, ◌∙◌, arith}
use Rattle.std.proofs.Math.Nat.{add-mod_right, add-mul, mod-eq_of_lt}
use Rattle.std.proofs.Math.Pow.{mod-mod-pow, ones_lt}
use Rattle.std.proofs.lemmas.Nat.{pow_pos, pow-add, mod_low, shr_high}
use Rattle.rmt_bits.specs.Bits.{deposit}

pub mod-128 : (n width : ℕ) → width ≤ 128 → n % 2 ^ 128 % 2 ^ width ≡ n % 2 ^ width
mod-128 n width h =
    let split : 128 ≡ (128 - width) + width = omega arith in
    ap (λ k. n % 2 ^ k % 2 ^ width) split ∙ mod-mod-pow n (128 - width) width

ones-from_high : (a b : ℕ) → 0 < a → 0 < b → a * b - 1 ≡ (a - 1) * b + (b - 1)
ones-from_high a b ha hb =
    let one_more : a ≡ (a - 1) + 1 = omega arith in
    let product : a * b ≡ (a - 1) * b + 1 * b = ap (λ n. n * b) one_more ∙ add-mul (a - 1) 1 b in
    omega arith

pub ones-128 : (width : ℕ) → width ≤ 128 → (2 ^ 128 - 1) % 2 ^ width ≡ 2 ^ width - 1
ones-128 width h =
    let split : 128 ≡ (128 - width) + width = omega arith in
    let whole : 2 ^ 128 ≡ 2 ^ (128 - width) * 2 ^ width = ap (λ k. 2 ^ k) split ∙ pow-add 2 (128 - width) width in
    ap (λ n. (n - 1) % 2 ^ width) whole
    ∙ ap (λ n. n % 2 ^ width) (ones-from_high (2 ^ (128 - width)) (2 ^ width) (pow_pos (128 - width)) (pow_pos width))
    ∙ mod_low (2 ^ (128 - width) - 1) width (2 ^ width - 1) (ones_lt width)

-- the difference of a number and a lesser one
pub less-mod : (a b m : ℕ) → b ≤ a → (a - b) % m ≡ (a + m - b) % m
less-mod a b m h =
    let moved : a + m - b ≡ (a - b) + m = omega arith in
    sym (add-mod_right (a - b) m) ∙ ap (λ n. n % m) (sym moved)

-- the difference of a number and a greater one
pub more-mod : (a b m : ℕ) → a < b → 0 < m → m - 1 - (b - a - 1) ≡ (a + m - b) % m
more-mod a b m h pos =
    let same : m - 1 - (b - a - 1) ≡ a + m - b = omega arith in
    let below : a + m - b < m = omega arith in
    same ∙ sym (mod-eq_of_lt below)

-- bits put below those that are there
pub deposit_onto : (n k low len x : ℕ) → n ≡ k * 2 ^ (len + low) → deposit n low len x ≡ n + x * 2 ^ low
deposit_onto n k low len x e =
    let turned : n ≡ k * 2 ^ (low + len) = e ∙ ap (λ m. k * 2 ^ m) (omega arith) in
    let split : 2 ^ (len + low) ≡ 2 ^ len * 2 ^ low = pow-add 2 len low in
    let whole : n ≡ k * 2 ^ (low + len) + 0 = omega (arith, turned) in
    let high : n / 2 ^ (low + len) ≡ k = ap (λ m. m / 2 ^ (low + len)) whole ∙ shr_high k (low + len) 0 (pow_pos (low + len)) in
    let again : n ≡ k * 2 ^ len * 2 ^ low + 0 = e ∙ (let m : k * 2 ^ (len + low) ≡ k * 2 ^ len * 2 ^ low + 0 = rw split (omega arith) in m) in
    let rest : n % 2 ^ low ≡ 0 = ap (λ m. m % 2 ^ low) again ∙ mod_low (k * 2 ^ len) low 0 (pow_pos low) in
    rw (high, rest) (omega (arith, turned))

-- and they are then there too
pub high_more : (n k low len x : ℕ) → n ≡ k * 2 ^ (len + low) → n + x * 2 ^ low ≡ (k * 2 ^ len + x) * 2 ^ low
high_more n k low len x e =
    let split : 2 ^ (len + low) ≡ 2 ^ len * 2 ^ low = pow-add 2 len low in
    let product : (k * 2 ^ len + x) * 2 ^ low ≡ k * 2 ^ len * 2 ^ low + x * 2 ^ low = add-mul (k * 2 ^ len) x (2 ^ low) in
    let again : n ≡ k * 2 ^ len * 2 ^ low = e ∙ (let m : k * 2 ^ (len + low) ≡ k * 2 ^ len * 2 ^ low = rw split (omega arith) in m) in
    omega arith
