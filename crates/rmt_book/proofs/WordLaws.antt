-- Bits of words that stand side by side.
use Rattle.std.proofs.Common.{◌≡◌, ℕ, zero, suc, ◌+◌, ◌-◌, ◌*◌, ◌/◌, ◌%◌, ◌^◌, ◌<◌, ◌≤◌, List, [], ◌∷◌, ◌++◌, add-one, length, get_or, map, min, inl, inr, refl, sym, ap, ◌∙◌, arith}
use Rattle.std.specs.Prelude.{All}
use Rattle.std.proofs.lemmas.Bool.{cases_lt}
use Rattle.std.proofs.lemmas.Nat.{shr-shr, mod_low, shr_high, mul-le, div-add-mod'}
use Rattle.std.proofs.lemmas.List.Elements.{All-cons, All-head, All-nil, All-tail}
use Rattle.std.proofs.Math.Nat.{mod-eq_of_lt}
use Rattle.std.proofs.Math.Pow.{pow_mono}
use Rattle.rmt_bits.specs.Bits.{bytes_of, slice}
use Rattle.rmt_bits.proofs.BitLaws.{slice-add, slice-from_low, slice-lt, turned}
use Rattle.rmt_config.specs.Cells.{Blocks, unit_row}
use Rattle.rmt_config.proofs.UnitBits.{Within}
use Rattle.rmt_config.proofs.SpelledBytes.{mod-turned, mod-within, slice-shr}
use Rattle.rmt_book.specs.Words.{joined}

-- bits within one word
joined-slice : (size : ℕ) (words : List ℕ) (o t n : ℕ) → All (λ w. w < 2 ^ size) words → o < length words → t + n ≤ size
    → slice (joined size words) (o * size + t) n ≡ slice (get_or words o 0) t n
joined-slice size [] o t n small lt fit = absurd (omega (arith, lt))
joined-slice size (w ∷ ws) zero t n small lt fit =
    let here : w < 2 ^ size = All-head (λ w. w < 2 ^ size) w ws small in
    let at : 0 * size + t ≡ t = omega arith in
    ap (λ k. slice (joined size (w ∷ ws)) k n) at
    ∙ slice-from_low (joined size (w ∷ ws)) w t n size fit
    (ap (λ k. k % 2 ^ size) (turned w (joined size ws) (2 ^ size)) ∙ mod_low (joined size ws) size w here ∙ sym (mod-eq_of_lt here))
joined-slice size (w ∷ ws) (suc o) t n small lt fit =
    let here : w < 2 ^ size = All-head (λ w. w < 2 ^ size) w ws small in
    let at : suc o * size + t ≡ size + (o * size + t) = omega arith in
    let high : joined size (w ∷ ws) / 2 ^ size ≡ joined size ws =
    ap (λ k. k / 2 ^ size) (turned w (joined size ws) (2 ^ size)) ∙ shr_high (joined size ws) size w here in
    ap (λ k. joined size (w ∷ ws) / 2 ^ k % 2 ^ n) at
    ∙ ap (λ k. k % 2 ^ n) (sym (shr-shr (joined size (w ∷ ws)) size (o * size + t)) ∙ ap (λ k. k / 2 ^ (o * size + t)) high)
    ∙ joined-slice size ws o t n (All-tail (λ w. w < 2 ^ size) w ws small) (omega (arith, lt)) fit

-- some bits more
pub bits-more : (size low done count value bits at : ℕ) (words : List ℕ) → All (λ w. w < 2 ^ size) words → at ≡ low + done → at % size + count ≤ size → at / size < length words
    → value ≡ slice (joined size words) low done → bits ≡ slice (get_or words (at / size) 0) (at % size) count
    → value + bits * 2 ^ done ≡ slice (joined size words) low (done + count)
bits-more size low done count value bits at words small is fit inside was read =
    let j = joined size words in
    let place : at / size * size + at % size ≡ low + done = div-add-mod' at size ∙ is in
    let here : bits ≡ slice j (low + done) count =
    read ∙ sym (joined-slice size words (at / size) (at % size) count small inside fit) ∙ ap (λ k. slice j k count) place in
    let turn : count + done ≡ done + count = omega arith in
    let all : slice j low (done + count) ≡ slice j (low + done) count * 2 ^ done + slice j low done = ap (slice j low) (sym turn) ∙ slice-add j low count done in
    ap (λ b. value + b * 2 ^ done) here ∙ ap (λ v. v + slice j (low + done) count * 2 ^ done) was
    ∙ (let e : slice j low done + slice j (low + done) count * 2 ^ done ≡ slice j (low + done) count * 2 ^ done + slice j low done = omega arith in e) ∙ sym all

-- few bits make a byte
pub bits-small : (j low done len : ℕ) → done ≤ len → len ≤ 8 → slice j low done < 256
bits-small j low done len le short =
    let lt = slice-lt j low done in
    let more : 2 ^ done ≤ 2 ^ 8 = pow_mono (let l : done ≤ 8 = omega arith in l) in
    omega (arith, lt, more)

-- a byte of a slice
pub byte-of-slice : (j low len up left : ℕ) → up ≤ len → left ≡ min (len - up) 8 → slice j (low + up) left ≡ slice j low len / 2 ^ up % 256
byte-of-slice j low len up left le is =
    let y = j / 2 ^ (low + up) in
    elim (cases_lt 8 (len - up)) as (λ _. slice j (low + up) left ≡ slice j low len / 2 ^ up % 256) [
      | inl far ↦
          let e : left ≡ 8 = omega (arith, is, far) in
          ap (λ n. y % 2 ^ n) e ∙ sym (mod-within y 8 (len - up) (omega (arith, far))) ∙ sym (mod-turned y (len - up) 8) ∙ sym (ap (λ n. n % 2 ^ 8) (slice-shr j low len up le))
      | inr near ↦
          let e : left ≡ len - up = omega (arith, is, near) in
          ap (λ n. y % 2 ^ n) e ∙ sym (mod-within y (len - up) 8 near) ∙ sym (ap (λ n. n % 2 ^ 8) (slice-shr j low len up le))
    ]

-- few bits moved up by few lose none
pub bits-kept : (j low count done bits : ℕ) → bits ≡ slice j low count → count ≤ 8 → done ≤ 8 → bits * 2 ^ done % 2 ^ 128 ≡ bits * 2 ^ done
bits-kept j low count done bits is short le =
    let lt = bits-small j low count count (omega arith) short in
    let more : 2 ^ done ≤ 2 ^ 8 = pow_mono le in
    let all : bits * 2 ^ done ≤ 256 * 2 ^ 8 = mul-le bits (2 ^ done) 256 (2 ^ 8) (omega (arith, lt, is)) more in
    mod-eq_of_lt (omega (arith, all))

-- ---- a row of blocks side by side

pub joined-unit : (size : ℕ) (held : Blocks) (row : ℕ) (blocks : List ℕ) → joined size (map (λ b. held b row) blocks) ≡ unit_row size held row blocks
joined-unit size held row [] = refl
joined-unit size held row (b ∷ bs) = ap (λ n. held b row + 2 ^ size * n) (joined-unit size held row bs)

pub words-small : (size : ℕ) (held : Blocks) (row : ℕ) (blocks : List ℕ) → Within size held → All (λ w. w < 2 ^ size) (map (λ b. held b row) blocks)
words-small size held row [] small = All-nil (λ w. w < 2 ^ size)
words-small size held row (b ∷ bs) small = All-cons (λ w. w < 2 ^ size) (held b row) (map (λ b. held b row) bs) (small b row) (words-small size held row bs small)

-- a byte more of a number, the highest first
pub bytes-more : (so_far : List ℕ) (x count at byte : ℕ) → at < count → so_far ≡ bytes_of at (x / 2 ^ (8 * (count - at)))
    → byte ≡ x / 2 ^ (8 * (count - 1 - at)) % 256 → so_far ++ byte ∷ [] ≡ bytes_of (at + 1) (x / 2 ^ (8 * (count - (at + 1))))
bytes-more so_far x count at byte lt is e =
    let y = x / 2 ^ (8 * (count - (at + 1))) in
    let next : 8 * (count - at) ≡ 8 * (count - (at + 1)) + 8 = omega (arith, lt) in
    let same : 8 * (count - 1 - at) ≡ 8 * (count - (at + 1)) = omega arith in
    let shift : x / 2 ^ (8 * (count - at)) ≡ y / 256 = ap (λ n. x / 2 ^ n) next ∙ sym (shr-shr x (8 * (count - (at + 1))) 8) in
    ap (λ (bs : List ℕ). bs ++ byte ∷ []) (is ∙ ap (bytes_of at) shift) ∙ ap (λ b. bytes_of at (y / 256) ++ b ∷ []) (e ∙ ap (λ n. x / 2 ^ n % 256) same)
    ∙ sym (ap (λ n. bytes_of n y) (add-one at))
