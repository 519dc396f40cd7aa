-- Runs of bits in a row of blocks side by side.
use Rattle.std.proofs.Common.{◌≡◌, ◌≢◌, ℕ, zero, suc, ◌+◌, ◌-◌, ◌*◌, ◌/◌, ◌%◌, ◌^◌, ◌<◌, ◌≤◌, List, [], ◌∷◌, length, get_or, sym, refl, ap, ◌∙◌, subst, arith, inl, inr}
use Rattle.std.specs.Prelude.{AllPairs}
use Rattle.std.specs.Int.{bit_at}
use Rattle.std.proofs.lemmas.Bool.{cases_order}
use Rattle.std.proofs.lemmas.List.{get_or_default}
use Rattle.std.proofs.lemmas.Nat.{shr-shr, shr_split, shr_below, mod_low}
use Rattle.std.proofs.lemmas.Nat.Bits.{same_from_bits_below}
use Rattle.std.proofs.Math.Nat.{mod-eq_of_lt}
use Rattle.rmt_bits.specs.Bits.{slice, deposit}
use Rattle.rmt_bits.proofs.BitLaws.{slice-lt, mod-from_low, deposit-add, slice-slice, deposit-multiple, turned}
use Rattle.rmt_bits.proofs.ByteLaws.{deposit-raised}
use Rattle.rmt_config.specs.Cells.{Blocks, unit_row}
use Rattle.rmt_config.proofs.UnitBits.{Within, unit_bit, slice-bit}
use Rattle.rmt_pack.specs.Cells.{PutsBits}

-- ---- slices and deposits

-- a deposit in the low bits of a number in two parts
pub deposit-low_part : (f b m s t x : ℕ) → b < 2 ^ m → s + t ≤ m → deposit (f * 2 ^ m + b) s t x ≡ f * 2 ^ m + deposit b s t x
deposit-low_part f b m s t x hb within =
    let n = f * 2 ^ m + b in
    let small : b % 2 ^ m ≡ b = mod-eq_of_lt hb in
    let agree : n % 2 ^ m ≡ b % 2 ^ m = mod_low f m b hb ∙ sym small in
    let one : n % 2 ^ (s + t) ≡ b % 2 ^ (s + t) = mod-from_low n b m (s + t) within agree in
    let least : n % 2 ^ s ≡ b % 2 ^ s = mod-from_low n b m s (omega arith) agree in
    let whole_n = shr_split n (s + t) in
    let whole_b = shr_split b (s + t) in
    omega (arith, one, least, whole_n, whole_b)

-- the highest bits of a number and those below them
pub number-more : (x left l : ℕ) → l ≤ left → x / 2 ^ left * 2 ^ l + slice x (left - l) l ≡ x / 2 ^ (left - l)
number-more x left l le =
    let whole : left - l + l ≡ left = omega arith in
    let high : x / 2 ^ (left - l) / 2 ^ l ≡ x / 2 ^ left = shr-shr x (left - l) l ∙ ap (λ n. x / 2 ^ n) whole in
    ap (λ n. n * 2 ^ l + slice x (left - l) l) (sym high) ∙ shr_split (x / 2 ^ (left - l)) l

-- ---- rows of blocks side by side

pub unit_row-same : (size : ℕ) (new old : Blocks) (row : ℕ) (blocks : List ℕ)
    → ((i : ℕ) → i < length blocks → new (get_or blocks i 0) row ≡ old (get_or blocks i 0) row) → unit_row size new row blocks ≡ unit_row size old row blocks
unit_row-same size new old row [] same = refl
unit_row-same size new old row (b ∷ blocks) same =
    ap (λ n. n + 2 ^ size * unit_row size new row blocks) (same 0 (omega arith))
    ∙ ap (λ n. old b row + 2 ^ size * n) (unit_row-same size new old row blocks (λ i lt. same (suc i) (omega (arith, lt))))

-- bits that are put into one of the blocks are put into the row
pub unit_row-put : (size : ℕ) (new old : Blocks) (row : ℕ) (blocks : List ℕ) (o t l x : ℕ) → Within size old → o < length blocks → t + l ≤ size
    → new (get_or blocks o 0) row ≡ deposit (old (get_or blocks o 0) row) t l x
    → ((i : ℕ) → i < length blocks → i ≢ o → new (get_or blocks i 0) row ≡ old (get_or blocks i 0) row)
    → unit_row size new row blocks ≡ deposit (unit_row size old row blocks) (o * size + t) l x
unit_row-put size new old row [] o t l x w lo fits put others = absurd (omega (arith, lo))
unit_row-put size new old row (b ∷ blocks) zero t l x w lo fits put others =
    let rest = unit_row size old row blocks in
    let same : unit_row size new row blocks ≡ rest = unit_row-same size new old row blocks (λ i lt. others (suc i) (omega (arith, lt)) (omega arith)) in
    let here : 0 * size + t ≡ t = omega arith in
    ap (λ n. n + 2 ^ size * unit_row size new row blocks) put
    ∙ ap (λ n. deposit (old b row) t l x + 2 ^ size * n) same
    ∙ turned (deposit (old b row) t l x) rest (2 ^ size)
    ∙ sym (deposit-low_part rest (old b row) size t l x (w b row) fits)
    ∙ ap (λ n. deposit n t l x) (sym (turned (old b row) rest (2 ^ size)))
    ∙ ap (λ n. deposit (old b row + 2 ^ size * rest) n l x) (sym here)
unit_row-put size new old row (b ∷ blocks) (suc o) t l x w lo fits put others =
    let rest = unit_row size old row blocks in
    let same : new b row ≡ old b row = others 0 (omega arith) (omega arith) in
    let more : unit_row size new row blocks ≡ deposit rest (o * size + t) l x =
    unit_row-put size new old row blocks o t l x w (omega (arith, lo)) fits put (λ i lt ne. others (suc i) (omega (arith, lt)) (λ e. ne (omega (arith, e)))) in
    let at : size + (o * size + t) ≡ suc o * size + t = omega arith in
    ap (λ n. n + 2 ^ size * unit_row size new row blocks) same
    ∙ ap (λ n. old b row + 2 ^ size * n) more
    ∙ turned (old b row) (deposit rest (o * size + t) l x) (2 ^ size)
    ∙ sym (deposit-raised rest size (old b row) (o * size + t) l x (w b row))
    ∙ ap (λ n. deposit n (size + (o * size + t)) l x) (sym (turned (old b row) rest (2 ^ size)))
    ∙ ap (λ n. deposit (old b row + 2 ^ size * rest) n l x) at

-- bits within one of the blocks are bits of the row
pub unit_row-slice : (size : ℕ) (held : Blocks) (row : ℕ) (blocks : List ℕ) (o t l : ℕ) → Within size held → o < length blocks → t + l ≤ size
    → slice (unit_row size held row blocks) (o * size + t) l ≡ slice (held (get_or blocks o 0) row) t l
unit_row-slice size held row blocks o t l w lo fits =
    let x = unit_row size held row blocks in
    let one = held (get_or blocks o 0) row in
    same_from_bits_below l (slice x (o * size + t) l) (slice one t l) (slice-lt x (o * size + t) l) (slice-lt one t l)
    (λ i li.
    let at : o * size + t + i ≡ o * size + (t + i) = omega arith in
    slice-bit x (o * size + t) l i li ∙ ap (bit_at x) at ∙ unit_bit size held row blocks o (t + i) w lo (omega (arith, li, fits)) ∙ sym (slice-bit one t l i li))

-- ---- a run is written from its highest bits on

put-more : (v x low len left l : ℕ) → l ≤ left → left ≤ len → x < 2 ^ len
    → deposit (deposit v (low + left) (len - left) (x / 2 ^ left)) (low + (left - l)) l (slice x (left - l) l) ≡ deposit v (low + (left - l)) (len - (left - l)) (x / 2 ^ (left - l))
put-more v x low len left l le within small =
    let top : low + (left - l) + l ≡ low + left = omega arith in
    let long : len - left + l ≡ len - (left - l) = omega arith in
    let whole : len - left + left ≡ len = omega arith in
    let high : x / 2 ^ left < 2 ^ (len - left) = shr_below x (len - left) left (subst (λ n. x < 2 ^ n) (sym whole) small) in
    ap (λ n. deposit (deposit v n (len - left) (x / 2 ^ left)) (low + (left - l)) l (slice x (left - l) l)) (sym top)
    ∙ deposit-add v (low + (left - l)) (len - left) l (x / 2 ^ left) (slice x (left - l) l) high (slice-lt x (left - l) l)
    ∙ ap (λ n. deposit v (low + (left - l)) n (x / 2 ^ left * 2 ^ l + slice x (left - l) l)) long
    ∙ ap (deposit v (low + (left - l)) (len - (left - l))) (number-more x left l le)

-- with one more piece, of l bits from the bit t of block o on
pub puts-more : (old mid new : Blocks) (row : ℕ) (blocks : List ℕ) (low len left o t l x : ℕ) → Within 112 mid → AllPairs ◌≢◌ blocks → o < length blocks
    → t + l ≤ 112 → o * 112 + (t + l) ≡ low + left → l ≤ left → left ≤ len → x < 2 ^ len
    → new (get_or blocks o 0) row ≡ deposit (mid (get_or blocks o 0) row) t l (slice x (left - l) l)
    → ((b r : ℕ) → (b ≡ get_or blocks o 0 → r ≡ row → ⊥) → new b r ≡ mid b r)
    → PutsBits old mid row blocks (low + left) (len - left) (x / 2 ^ left) → PutsBits old new row blocks (low + (left - l)) (len - (left - l)) (x / 2 ^ (left - l))
puts-more old mid new row blocks low len left o t l x w apart lo fits place le within small put others p = record {
  here =
      let at : o * 112 + t ≡ low + (left - l) = omega (arith, place, le) in
      unit_row-put 112 new mid row blocks o t l (slice x (left - l) l) w lo fits put beside
      ∙ ap (λ n. deposit (unit_row 112 mid row blocks) n l (slice x (left - l) l)) at
      ∙ ap (λ n. deposit n (low + (left - l)) l (slice x (left - l) l)) p.here
      ∙ put-more (unit_row 112 old row blocks) x low len left l le within small;
  elsewhere = λ b r out.
      others b r (λ eb er. out er (o, lo, get_or_default blocks o b 0 lo ∙ sym eb)) ∙ p.elsewhere b r out;
}
  where
    beside : (i : ℕ) → i < length blocks → i ≢ o → new (get_or blocks i 0) row ≡ mid (get_or blocks i 0) row
    beside i li ne =
        others (get_or blocks i 0) row (λ eb er.
        elim (cases_order i o) as (λ _. ⊥) [
          | inl same ↦ ne same
          | inr (inl less) ↦ apart i o 0 less lo eb
          | inr (inr more) ↦ apart o i 0 more li (sym eb)
        ])

-- ---- a run is read from its highest bits on

-- the number that bytes hold whose lowest left bits are not read yet
pub read-more : (held : Blocks) (row : ℕ) (blocks : List ℕ) (low len left o t l v was new : ℕ) → Within 112 held → o < length blocks
    → t + l ≤ 112 → o * 112 + (t + l) ≡ low + left → l ≤ left → left ≤ len → v ≡ slice (held (get_or blocks o 0) row) t l
    → was ≡ slice (unit_row 112 held row blocks) low len / 2 ^ left * 2 ^ left → new ≡ deposit was (left - l) l v
    → new ≡ slice (unit_row 112 held row blocks) low len / 2 ^ (left - l) * 2 ^ (left - l)
read-more held row blocks low len left o t l v was new w lo fits place le within read before put =
    let u = unit_row 112 held row blocks in
    let s = slice u low len in
    let at : o * 112 + t ≡ low + (left - l) = omega (arith, place, le) in
    let bits : v ≡ slice s (left - l) l =
    read ∙ sym (unit_row-slice 112 held row blocks o t l w lo fits) ∙ ap (λ n. slice u n l) at ∙ sym (slice-slice u low len (left - l) l (omega (arith, le, within))) in
    let split : left ≡ left - l + l = omega arith in
    put ∙ ap (λ n. deposit n (left - l) l v) (before ∙ ap (λ n. s / 2 ^ left * 2 ^ n) split)
    ∙ deposit-multiple (s / 2 ^ left) (left - l) l v
    ∙ ap (λ n. (s / 2 ^ left * 2 ^ l + n) * 2 ^ (left - l)) bits
    ∙ ap (λ n. n * 2 ^ (left - l)) (number-more s left l le)

pub read-none : (u low len : ℕ) → 0 ≡ slice u low len / 2 ^ len * 2 ^ len
read-none u low len =
    let whole : 0 + len ≡ len = omega arith in
    let below : slice u low len / 2 ^ len < 2 ^ 0 = shr_below (slice u low len) 0 len (subst (λ n. slice u low len < 2 ^ n) (sym whole) (slice-lt u low len)) in
    let gone : slice u low len / 2 ^ len ≡ 0 = omega (arith, below) in
    sym (ap (λ n. n * 2 ^ len) gone ∙ zero_times (2 ^ len))
  where
    zero_times : (n : ℕ) → 0 * n ≡ 0
    zero_times n = omega arith

pub read-all : (s left : ℕ) → left ≡ 0 → s / 2 ^ left * 2 ^ left ≡ s
read-all s left none = ap (λ n. s / 2 ^ n * 2 ^ n) none ∙ whole s
  where
    whole : (n : ℕ) → n / 2 ^ 0 * 2 ^ 0 ≡ n
    whole n = omega arith
