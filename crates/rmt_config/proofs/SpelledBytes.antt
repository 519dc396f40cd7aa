-- Bytes of rows of blocks side by side, as keys are read.
use Rattle.std.proofs.Common.{◌≡◌, ℕ, zero, suc, min, refl, ◌+◌, ◌-◌, ◌*◌, ◌/◌, ◌%◌, ◌^◌, ◌<◌, ◌≤◌, List, [], ◌∷◌, ◌++◌, sym, ap, ◌∙◌, subst, append_assoc, arith, inl, inr}
use Rattle.std.proofs.lemmas.Bool.{cases_lt}
use Rattle.std.proofs.lemmas.List.{append-nil}
use Rattle.std.proofs.lemmas.Nat.{mod_below, pow_pos, pow-add, shr-shr, mul-le}
use Rattle.std.proofs.Math.Nat.{mod-eq_of_lt, mul-le-mul_left, div-one, pow-le-pow_right}
use Rattle.rmt_bits.specs.Bits.{slice, bytes_of, number_of}
use Rattle.rmt_bits.proofs.ByteLaws.{number_of-bytes_of}
use Rattle.rmt_config.specs.declared.form.layout.CellLayout.{CellLayout}
use Rattle.rmt_config.specs.Layouts.{IsInSram, IsLayout, local_of, position_of, quantum_of, row_of, unit_of}
use Rattle.rmt_bits.proofs.BitLaws.{mod-low, slice-lt}
use Rattle.rmt_config.specs.BlockCounts.{divided_up}
use Rattle.rmt_config.specs.Cells.{Blocks, blocks_at, unit_row}
use Rattle.rmt_config.proofs.CellPlaces.{blocks_there, mod-div_rows, unit_below}

-- ---- lower parts of numbers, and parts of slices

pub mul-more : (m n : ℕ) → 0 < n → m ≤ m * n
mul-more m n some = let h : m * 1 ≤ m * n = mul-le-mul_left m some in omega (arith, h)

-- the lower part of a lower part
pub mod-within : (z a b : ℕ) → a ≤ b → z % 2 ^ a % 2 ^ b ≡ z % 2 ^ a
mod-within z a b le =
    let small = mod_below z (2 ^ a) (pow_pos a) in
    let e : b ≡ a + (b - a) = omega (arith, le) in
    mod-eq_of_lt (subst (λ n. z % 2 ^ a < 2 ^ n) (sym e) (wider (z % 2 ^ a) a (b - a) small))
  where
    wider : (x a b : ℕ) → x < 2 ^ a → x < 2 ^ (a + b)
    wider x a b lt = rw (pow-add 2 a b) (let some = pow_pos b in let more = mul-more (2 ^ a) (2 ^ b) some in omega (arith, lt, more))

pub mod-turned : (z a b : ℕ) → z % 2 ^ a % 2 ^ b ≡ z % 2 ^ b % 2 ^ a
mod-turned z a b =
    elim (cases_lt a b) as (λ _. z % 2 ^ a % 2 ^ b ≡ z % 2 ^ b % 2 ^ a) [
      | inl lt ↦ let e : b ≡ a + (b - a) = omega (arith, lt) in mod-within z a b (omega (arith, lt)) ∙ sym (ap (λ n. z % 2 ^ n % 2 ^ a) e ∙ mod-low z a (b - a))
      | inr le ↦ let e : a ≡ b + (a - b) = omega (arith, le) in ap (λ n. z % 2 ^ n % 2 ^ b) e ∙ mod-low z b (a - b) ∙ sym (mod-within z b a le)
    ]

-- the bits of a slice from one on
pub slice-shr : (v low len up : ℕ) → up ≤ len → slice v low len / 2 ^ up ≡ v / 2 ^ (low + up) % 2 ^ (len - up)
slice-shr v low len up le =
    let e : len ≡ (len - up) + up = omega (arith, le) in
    ap (λ n. v / 2 ^ low % 2 ^ n / 2 ^ up) e ∙ ap (λ m. v / 2 ^ low % m / 2 ^ up) (pow-add 2 (len - up) up)
    ∙ mod-div_rows (v / 2 ^ low) (2 ^ (len - up)) (2 ^ up) (pow_pos (len - up)) (pow_pos up)
    ∙ ap (λ n. n % 2 ^ (len - up)) (shr-shr v low up)

-- ---- several bytes at once

-- the bits of a slice from one on, as many as a piece has room for
pub slice-part : (v low len up n m : ℕ) → up ≤ len → m ≡ min (len - up) n → slice v (low + up) m ≡ slice v low len / 2 ^ up % 2 ^ n
slice-part v low len up n m le is =
    let z = v / 2 ^ (low + up) in
    ap (λ k. z % 2 ^ k) is ∙ least (len - up) n z ∙ sym (ap (λ y. y % 2 ^ n) (slice-shr v low len up le))
  where
    least : (a b z : ℕ) → z % 2 ^ min a b ≡ z % 2 ^ a % 2 ^ b
    least a b z =
        elim (cases_lt a b) as (λ _. z % 2 ^ min a b ≡ z % 2 ^ a % 2 ^ b) [
          | inl lt ↦ let e : min a b ≡ a = omega (arith, lt) in ap (λ k. z % 2 ^ k) e ∙ sym (mod-within z a b (omega (arith, lt)))
          | inr ge ↦ let e : min a b ≡ b = omega (arith, ge) in let f : a ≡ b + (a - b) = omega (arith, ge) in
              ap (λ k. z % 2 ^ k) e ∙ sym (ap (λ k. z % 2 ^ k % 2 ^ b) f ∙ mod-low z b (a - b))
        ]

byte-up : (y b : ℕ) → y / 256 / 2 ^ (8 * b) ≡ y / 2 ^ (8 * suc b)
byte-up y b = let e : 8 + 8 * b ≡ 8 * suc b = omega arith in shr-shr y 8 (8 * b) ∙ ap (λ n. y / 2 ^ n) e

-- the bytes of a number are those of its upper part before those of its lower part
bytes_of-add : (a b y : ℕ) → bytes_of (a + b) y ≡ bytes_of a (y / 2 ^ (8 * b)) ++ bytes_of b y
bytes_of-add a zero y =
    let e : a + 0 ≡ a = omega arith in
    ap (λ n. bytes_of n y) e ∙ sym (append-nil (bytes_of a (y / 1)) ∙ ap (bytes_of a) (div-one y))
bytes_of-add a (suc b) y =
    let e : a + suc b ≡ suc (a + b) = omega arith in
    ap (λ n. bytes_of n y) e ∙ ap (λ (bs : List ℕ). bs ++ y % 256 ∷ []) (bytes_of-add a b (y / 256))
    ∙ append_assoc (bytes_of a (y / 256 / 2 ^ (8 * b))) (bytes_of b (y / 256)) (y % 256 ∷ [])
    ∙ ap (λ n. bytes_of a n ++ bytes_of (suc b) y) (byte-up y b)

bytes_of-low : (b y : ℕ) → bytes_of b (y % 2 ^ (8 * b)) ≡ bytes_of b y
bytes_of-low zero y = refl
bytes_of-low (suc b) y =
    let e : 8 * suc b ≡ 8 * b + 8 = omega arith in
    let f : 8 * suc b ≡ 8 + 8 * b = omega arith in
    let high : y % 2 ^ (8 * suc b) / 256 ≡ y / 256 % 2 ^ (8 * b) =
    ap (λ n. y % 2 ^ n / 256) e ∙ ap (λ m. y % m / 256) (pow-add 2 (8 * b) 8) ∙ mod-div_rows y (2 ^ (8 * b)) 256 (pow_pos (8 * b)) (omega arith) in
    let low : y % 2 ^ (8 * suc b) % 256 ≡ y % 256 = ap (λ n. y % 2 ^ n % 256) f ∙ mod-low y 8 (8 * b) in
    ap (λ n. bytes_of b n ++ y % 2 ^ (8 * suc b) % 256 ∷ []) high ∙ ap (λ (bs : List ℕ). bs ++ y % 2 ^ (8 * suc b) % 256 ∷ []) (bytes_of-low b (y / 256))
    ∙ ap (λ n. bytes_of b (y / 256) ++ n ∷ []) low

-- a piece more of a number
pub bytes-piece : (old so_far new : List ℕ) (x done left more count piece : ℕ) → so_far ≡ old ++ bytes_of done (x / 2 ^ (8 * left)) → left ≡ more + count
    → piece ≡ x / 2 ^ (8 * more) % 2 ^ (8 * count) → new ≡ so_far ++ bytes_of count piece → new ≡ old ++ bytes_of (done + count) (x / 2 ^ (8 * more))
bytes-piece old so_far new x done left more count piece is split e now =
    let y = x / 2 ^ (8 * more) in
    let up : 8 * left ≡ 8 * more + 8 * count = omega (arith, split) in
    let shift : x / 2 ^ (8 * left) ≡ y / 2 ^ (8 * count) = ap (λ n. x / 2 ^ n) up ∙ sym (shr-shr x (8 * more) (8 * count)) in
    now ∙ ap (λ (bs : List ℕ). bs ++ bytes_of count piece) is ∙ append_assoc old (bytes_of done (x / 2 ^ (8 * left))) (bytes_of count piece)
    ∙ ap (λ n. old ++ (bytes_of done n ++ bytes_of count piece)) shift
    ∙ ap (λ (bs : List ℕ). old ++ (bytes_of done (y / 2 ^ (8 * count)) ++ bs)) (ap (bytes_of count) e ∙ bytes_of-low count y)
    ∙ ap (λ (bs : List ℕ). old ++ bs) (sym (bytes_of-add done count y))

-- an entry lies in the row of its unit
pub entry_there : (l : CellLayout) (i : ℕ) → IsLayout l → position_of l i * l.entry + l.entry ≤ l.bits * l.side
entry_there l i is =
    let lt : i % l.per < l.per = mod_below i l.per is.some_per in
    let fit : (i % l.per + 1) * l.entry ≤ l.per * l.entry = mul-le (i % l.per + 1) l.entry l.per l.entry (omega (arith, lt)) (omega arith) in
    let next : (i % l.per + 1) * l.entry ≡ i % l.per * l.entry + l.entry = omega arith in
    omega (arith, fit, next, is.fits)

-- what is read at the spot where the entry of a cell begins is read at its place in the layout
pub spot-read : {X : Type 0} (l : CellLayout) (held : Blocks) (blocks : List ℕ) (n unit row low : ℕ) (read : ℕ → ℕ → X) → l.bits ≡ 112
    → unit ≡ unit_of l (quantum_of l n) (local_of l n) → row ≡ row_of l (local_of l n) → low ≡ position_of l (local_of l n) * l.entry
    → read (unit_row 112 held row (blocks_at blocks l.side unit)) low
    ≡ read (unit_row l.bits held (row_of l (local_of l n)) (blocks_at blocks l.side (unit_of l (quantum_of l n) (local_of l n)))) (position_of l (local_of l n) * l.entry)
spot-read l held blocks n unit row low read in_sram eu er el =
    ap (λ u. read (unit_row 112 held row (blocks_at blocks l.side u)) low) eu
    ∙ ap (λ r. read (unit_row 112 held r (blocks_at blocks l.side (unit_of l (quantum_of l n) (local_of l n)))) low) er
    ∙ ap (λ s. read (unit_row s held (row_of l (local_of l n)) (blocks_at blocks l.side (unit_of l (quantum_of l n) (local_of l n)))) low) (sym in_sram)
    ∙ ap (read (unit_row l.bits held (row_of l (local_of l n)) (blocks_at blocks l.side (unit_of l (quantum_of l n) (local_of l n))))) el

-- the blocks of the unit of a cell are there, its row is one of them, and its entry lies in that row
pub spot-unit : (l : CellLayout) (n unit len : ℕ) → IsLayout l → n < l.ways * l.quanta * l.way → len ≡ l.quanta * l.units * l.side → unit ≡ unit_of l (quantum_of l n) (local_of l n)
    → (unit + 1) * l.side ≤ len
spot-unit l n unit len is lt e eu = rw eu (blocks_there l (unit_of l (quantum_of l n) (local_of l n)) len (unit_below l n is lt) e)

pub spot-row : (l : CellLayout) (n row : ℕ) → IsInSram l → row ≡ row_of l (local_of l n) → row < 1024
spot-row l n row is er =
    let e = mod-div_rows (local_of l n) l.rows l.per is.is.some_rows is.is.some_per in
    omega (arith, e, er, mod_below (local_of l n / l.per) l.rows is.is.some_rows, is.in_blocks)

pub spot-low : (l : CellLayout) (n low : ℕ) → IsInSram l → low ≡ position_of l (local_of l n) * l.entry → low + l.entry ≤ 112 * l.side
spot-low l n low is el =
    let wide : l.bits * l.side ≡ 112 * l.side = ap (λ b. b * l.side) is.in_sram in
    omega (arith, entry_there l (local_of l n) is.is, wide, el)

-- all bits of a slice
pub slice-whole : (v low len : ℕ) → slice (slice v low len) 0 len ≡ slice v low len
slice-whole v low len = ap (λ n. n % 2 ^ len) (div-one (slice v low len)) ∙ mod-eq_of_lt (slice-lt v low len)

-- bits are the number of their bytes
pub slice-number : (x low bits : ℕ) → number_of (bytes_of (divided_up bits 8) (slice x low bits)) ≡ slice x low bits
slice-number x low bits =
    let wide : 2 ^ bits ≤ 2 ^ (8 * divided_up bits 8) = pow-le-pow_right (omega arith) (omega arith) in
    let small = slice-lt x low bits in
    number_of-bytes_of (divided_up bits 8) (slice x low bits) (omega (arith, small, wide))
