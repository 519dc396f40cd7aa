-- The head of an entry, in one block of its unit or across two.
use Rattle.std.proofs.Common.{◌≡◌, ℕ, ◌+◌, ◌-◌, ◌*◌, ◌/◌, ◌%◌, ◌^◌, ◌<◌, ◌≤◌, List, length, get_or, sym, ap, ◌∙◌, arith, inl, inr}
use Rattle.std.specs.Int.{bit_at}
use Rattle.std.proofs.lemmas.Bool.{cases_lt}
use Rattle.std.proofs.lemmas.Nat.{pow_pos, mod_below, shr_below, shr-shr}
use Rattle.std.proofs.lemmas.Nat.Bits.{bit_at-zero, bit_at_cat_low, bit_at_cat_high, same_from_bits_below}
use Rattle.rmt_bits.specs.Bits.{slice}
use Rattle.rmt_bits.proofs.BitLaws.{mod-low, slice-lt}
use Rattle.rmt_config.specs.Cells.{Blocks, unit_row}
use Rattle.rmt_config.proofs.UnitBits.{slice-bit, mod-bit, Within, unit_bit, unit_bit_past}

-- the 8 bits of two rows side by side, of 112 bits each
abbrev pub head_across : ℕ → ℕ → ℕ → ℕ
head_across first second at = (second % 256 * 2 ^ (112 - at) + first / 2 ^ at) % 256

pub head-bits : (held : Blocks) (row : ℕ) (blocks : List ℕ) (o t second : ℕ) → Within 112 held → o < length blocks → t < 112
    → (o + 1 < length blocks → second ≡ held (get_or blocks (o + 1) 0) row) → (length blocks ≤ o + 1 → second ≡ 0)
    → slice (unit_row 112 held row blocks) (o * 112 + t) 8 ≡ head_across (held (get_or blocks o 0) row) second t
head-bits held row blocks o t second w lo lt next last =
    same_from_bits_below 8 (slice x (o * 112 + t) 8) (both % 256) (slice-lt x (o * 112 + t) 8) (mod_below both 256 (pow_pos 8))
    (λ i li. slice-bit x (o * 112 + t) 8 i li ∙ bits i li ∙ sym (mod-bit both 8 i li))
  where
    x : ℕ
    x = unit_row 112 held row blocks

    first : ℕ
    first = held (get_or blocks o 0) row

    low : ℕ
    low = first / 2 ^ t

    both : ℕ
    both = second % 256 * 2 ^ (112 - t) + low

    low_lt : low < 2 ^ (112 - t)
    low_lt =
        let e : 112 - t + t ≡ 112 = omega (arith, lt) in
        shr_below first (112 - t) t (rw e (w (get_or blocks o 0) row))

    -- a bit of the second row
    second_bit : (j : ℕ) → j < 112 → bit_at x ((o + 1) * 112 + j) ≡ bit_at second j
    second_bit j lj =
        elim (cases_lt (o + 1) (length blocks)) as (λ _. bit_at x ((o + 1) * 112 + j) ≡ bit_at second j) [
          | inl more ↦ unit_bit 112 held row blocks (o + 1) j w more lj ∙ ap (λ n. bit_at n j) (sym (next more))
          | inr end ↦ unit_bit_past 112 held row blocks ((o + 1) * 112 + j) w (omega (arith, end)) ∙ sym (bit_at-zero j) ∙ ap (λ n. bit_at n j) (sym (last end))
        ]

    bits : (i : ℕ) → i < 8 → bit_at x (o * 112 + t + i) ≡ bit_at both i
    bits i li =
        elim (cases_lt i (112 - t)) as (λ _. bit_at x (o * 112 + t + i) ≡ bit_at both i) [
          | inl inside ↦
              let at : o * 112 + t + i ≡ o * 112 + (t + i) = omega arith in
              ap (bit_at x) at ∙ unit_bit 112 held row blocks o (t + i) w lo (omega (arith, inside, lt))
              ∙ sym (ap (λ n. n % 2) (shr-shr first t i)) ∙ sym (bit_at_cat_low (second % 256) (112 - t) low i inside)
          | inr across ↦
              let at : o * 112 + t + i ≡ (o + 1) * 112 + (i - (112 - t)) = omega (arith, across, lt) in
              ap (bit_at x) at ∙ second_bit (i - (112 - t)) (omega (arith, li)) ∙ sym (mod-bit second 8 (i - (112 - t)) (omega (arith, li)))
              ∙ sym (bit_at_cat_high (second % 256) (112 - t) low i low_lt across)
        ]

-- the head of an entry is its lowest 8 bits
pub slice-head : (x low entry : ℕ) → 8 ≤ entry → slice x low entry % 256 ≡ slice x low 8
slice-head x low entry le =
    let e : entry ≡ 8 + (entry - 8) = omega (arith, le) in
    ap (λ n. x / 2 ^ low % 2 ^ n % 256) e ∙ mod-low (x / 2 ^ low) 8 (entry - 8)
