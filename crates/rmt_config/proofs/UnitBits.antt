-- The bits of slices, and of the rows of blocks side by side.
use Rattle.std.proofs.Common.{◌≡◌, ℕ, zero, suc, ◌+◌, ◌-◌, ◌*◌, ◌/◌, ◌%◌, ◌^◌, ◌<◌, ◌≤◌, List, [], ◌∷◌, length, get_or, sym, ap, ◌∙◌, arith}
use Rattle.std.specs.Int.{bit_at}
use Rattle.std.proofs.lemmas.Nat.{pow_pos, pow-add, shr-shr, shr_split, mod_below, mul-add-lt}
use Rattle.std.proofs.lemmas.Nat.Bits.{bit_at-zero, bit_at_cat_low, bit_at_cat_high, bit_at_above, bit_at-lt, same_from_bits, same_from_bits_below}
use Rattle.rmt_bits.specs.Bits.{slice}
use Rattle.rmt_bits.proofs.BitLaws.{slice-add, slice-lt, turned}
use Rattle.rmt_config.specs.Cells.{Blocks, unit_row}

-- a bit that isn't 1 is 0
pub bit-zero : (x i : ℕ) → (bit_at x i ≡ 1 → ⊥) → bit_at x i ≡ 0
bit-zero x i h =
    let below : bit_at x i < 2 = bit_at-lt x i in
    let not_one : bit_at x i ≡ 1 → ⊥ = h in
    from (bit_at x i) below not_one
  where
    from : (b : ℕ) → b < 2 → (b ≡ 1 → ⊥) → b ≡ 0
    from b lt ne = omega (arith, lt, ne)

-- ---- slices

pub mod-bit : (y len i : ℕ) → i < len → bit_at (y % 2 ^ len) i ≡ bit_at y i
mod-bit y len i lt = sym (bit_at_cat_low (y / 2 ^ len) len (y % 2 ^ len) i lt) ∙ ap (λ n. bit_at n i) (shr_split y len)

pub slice-bit : (x low len i : ℕ) → i < len → bit_at (slice x low len) i ≡ bit_at x (low + i)
slice-bit x low len i lt = mod-bit (x / 2 ^ low) len i lt ∙ ap (λ n. n % 2) (shr-shr x low i)

-- a slice is 0 where each of its bits is
pub slice-zero : (x low len : ℕ) → ((i : ℕ) → i < len → bit_at x (low + i) ≡ 0) → slice x low len ≡ 0
slice-zero x low len h =
    same_from_bits_below len (slice x low len) 0 (mod_below (x / 2 ^ low) (2 ^ len) (pow_pos len)) (pow_pos len)
    (λ i lt. slice-bit x low len i lt ∙ h i lt ∙ sym (bit_at-zero i))

pub slice-zero_bit : (x low len i : ℕ) → slice x low len ≡ 0 → i < len → bit_at x (low + i) ≡ 0
slice-zero_bit x low len i e lt = sym (slice-bit x low len i lt) ∙ ap (λ n. bit_at n i) e ∙ bit_at-zero i

-- a number without bits from one on is below its power
pub below-from_bits : (x end : ℕ) → ((i : ℕ) → end ≤ i → bit_at x i ≡ 0) → x < 2 ^ end
below-from_bits x end h =
    let high : x / 2 ^ end ≡ 0 =
    same_from_bits (x / 2 ^ end) 0 (λ i. ap (λ n. n % 2) (shr-shr x end i) ∙ h (end + i) (omega arith) ∙ sym (bit_at-zero i)) in
    let small : x % 2 ^ end < 2 ^ end = mod_below x (2 ^ end) (pow_pos end) in
    let split : x / 2 ^ end * 2 ^ end + x % 2 ^ end ≡ x = shr_split x end in
    let none : x / 2 ^ end * 2 ^ end ≡ 0 = ap (λ n. n * 2 ^ end) high ∙ zero_times (2 ^ end) in
    omega (arith, small, split, none)
  where
    zero_times : (n : ℕ) → 0 * n ≡ 0
    zero_times n = omega arith

-- ---- rows of blocks side by side

-- each row of a block has no more bits than the block
abbrev pub Within : ℕ → Blocks → Type 0
Within size held = (block row : ℕ) → held block row < 2 ^ size

pub unit_row-lt : (size : ℕ) (held : Blocks) (row : ℕ) (blocks : List ℕ) → Within size held → unit_row size held row blocks < 2 ^ (length blocks * size)
unit_row-lt size held row [] w = pow_pos (0 * size)
unit_row-lt size held row (block ∷ blocks) w =
    let rest = unit_row size held row blocks in
    let lt = mul-add-lt rest (2 ^ size) (held block row) (2 ^ (length blocks * size)) (unit_row-lt size held row blocks w) (w block row) in
    let long : suc (length blocks) * size ≡ size + length blocks * size = omega arith in
    let e : 2 ^ (suc (length blocks) * size) ≡ 2 ^ size * 2 ^ (length blocks * size) = ap (λ n. 2 ^ n) long ∙ pow-add 2 size (length blocks * size) in
    rw (e, turned (held block row) rest (2 ^ size)) lt

pub unit_bit_past : (size : ℕ) (held : Blocks) (row : ℕ) (blocks : List ℕ) (i : ℕ) → Within size held → length blocks * size ≤ i
    → bit_at (unit_row size held row blocks) i ≡ 0
unit_bit_past size held row blocks i w past = bit_at_above (unit_row size held row blocks) (length blocks * size) i (unit_row-lt size held row blocks w) past

-- a bit of a unit's row is a bit of one of its blocks
pub unit_bit : (size : ℕ) (held : Blocks) (row : ℕ) (blocks : List ℕ) (o t : ℕ) → Within size held → o < length blocks → t < size
    → bit_at (unit_row size held row blocks) (o * size + t) ≡ bit_at (held (get_or blocks o 0) row) t
unit_bit size held row [] o t w lt small = absurd (omega (arith, lt))
unit_bit size held row (block ∷ blocks) zero t w lt small =
    let here : 0 * size + t ≡ t = omega arith in
    ap (λ n. bit_at n (0 * size + t)) (turned (held block row) (unit_row size held row blocks) (2 ^ size))
    ∙ ap (bit_at (unit_row size held row blocks * 2 ^ size + held block row)) here
    ∙ bit_at_cat_low (unit_row size held row blocks) size (held block row) t small
unit_bit size held row (block ∷ blocks) (suc o) t w lt small =
    let at : suc o * size + t - size ≡ o * size + t = omega arith in
    let high : size ≤ suc o * size + t = omega arith in
    ap (λ n. bit_at n (suc o * size + t)) (turned (held block row) (unit_row size held row blocks) (2 ^ size))
    ∙ bit_at_cat_high (unit_row size held row blocks) size (held block row) (suc o * size + t) (w block row) high
    ∙ ap (bit_at (unit_row size held row blocks)) at
    ∙ unit_bit size held row blocks o t w (omega (arith, lt)) small

-- ---- bits of a row of blocks side by side

-- in one block
pub unit-slice : (held : Blocks) (row : ℕ) (blocks : List ℕ) (o t len : ℕ) → Within 112 held → o < length blocks → t + len ≤ 112
    → slice (unit_row 112 held row blocks) (o * 112 + t) len ≡ slice (held (get_or blocks o 0) row) t len
unit-slice held row blocks o t len w lo le =
    let x = unit_row 112 held row blocks in
    let first = held (get_or blocks o 0) row in
    same_from_bits_below len (slice x (o * 112 + t) len) (slice first t len) (slice-lt x (o * 112 + t) len) (slice-lt first t len)
    (λ i li. let at : o * 112 + t + i ≡ o * 112 + (t + i) = omega arith in
    slice-bit x (o * 112 + t) len i li ∙ ap (bit_at x) at ∙ unit_bit 112 held row blocks o (t + i) w lo (omega (arith, li, le))
    ∙ sym (slice-bit first t len i li))

-- across two
pub unit-across : (held : Blocks) (row : ℕ) (blocks : List ℕ) (o t a : ℕ) → Within 112 held → o + 1 < length blocks → t < 112 → a ≤ 112
    → slice (unit_row 112 held row blocks) (o * 112 + t) (a + (112 - t))
    ≡ slice (held (get_or blocks (o + 1) 0) row) 0 a * 2 ^ (112 - t) + slice (held (get_or blocks o 0) row) t (112 - t)
unit-across held row blocks o t a w lo lt le =
    let x = unit_row 112 held row blocks in
    let b = 112 - t in
    let next : o * 112 + t + b ≡ (o + 1) * 112 + 0 = omega (arith, lt) in
    slice-add x (o * 112 + t) a b
    ∙ ap (λ n. slice x n a * 2 ^ b + slice x (o * 112 + t) b) next
    ∙ ap (λ n. n * 2 ^ b + slice x (o * 112 + t) b) (unit-slice held row blocks (o + 1) 0 a w lo (omega (arith, le)))
    ∙ ap (λ n. slice (held (get_or blocks (o + 1) 0) row) 0 a * 2 ^ b + n) (unit-slice held row blocks o t b w (omega (arith, lo)) (omega (arith, lt)))

pub one_is_not_zero : (n : ℕ) → n ≡ 0 → n ≡ 1 → ⊥
one_is_not_zero n a b = omega (arith, a, b)
