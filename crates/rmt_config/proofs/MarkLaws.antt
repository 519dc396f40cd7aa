-- A number that is marked stays so while others are.
use Rattle.std.proofs.Common.{◌≡◌, ℕ, ◌-◌, ◌*◌, ◌/◌, ◌%◌, ◌^◌, ◌<◌, List, length, get_or, set, true, sym, ap, ◌∙◌, bit_and, bit_or, w64, arith, inl, inr}
use Rattle.std.specs.Int.{bit_at}
use Rattle.std.proofs.lemmas.Bool.{cases_eq, eqb-true, eq-eqb}
use Rattle.std.proofs.lemmas.List.{get_or-set_same, get_or-set_other, length-set}
use Rattle.std.proofs.lemmas.Nat.{mod_below}
use Rattle.std.proofs.lemmas.Nat.Bits.{bit_at_set_same, bit_at_set_other}
use Rattle.rmt_config.specs.Marks.{is_marked, word_of}

-- a word with one more bit set
abbrev pub with_bit : ℕ → ℕ → ℕ
with_bit x k = bit_or x (1 * 2 ^ k % 2 ^ 64)

bit_stays : (x k i : ℕ) → k < 64 → bit_at x i ≡ 1 → bit_at (with_bit x k) i ≡ 1
bit_stays x k i within was =
    elim (cases_eq i k) as (λ _. bit_at (with_bit x k) i ≡ 1) [
      | inl same ↦ ap (bit_at (with_bit x k)) same ∙ bit_at_set_same w64 x k within
      | inr other ↦ bit_at_set_other w64 x k within i other ∙ was
    ]

-- a write leaves each number its word
same_word : (words : List ℕ) (w y n : ℕ) → get_or (set words w y) (word_of (set words w y) n) 0 ≡ get_or (set words w y) (word_of words n) 0
same_word words w y n = ap (λ l. get_or (set words w y) (bit_and (n / 64) (l - 1)) 0) (length-set words w y)

-- the number that is marked
pub own-marked : (words : List ℕ) (w n : ℕ) → w ≡ word_of words n → w < length words → is_marked (set words w (with_bit (get_or words w 0) (n % 64))) n ≡ true
own-marked words w n is lt =
    let y = with_bit (get_or words w 0) (n % 64) in
    eq-eqb (bit_at (get_or (set words w y) (word_of (set words w y) n) 0) (n % 64)) 1
    (ap (λ x. bit_at x (n % 64)) (same_word words w y n ∙ ap (λ k. get_or (set words w y) k 0) (sym is) ∙ get_or-set_same words w y 0 lt)
    ∙ bit_at_set_same w64 (get_or words w 0) (n % 64) (mod_below n 64 (omega arith)))

-- another
pub other-marked : (words : List ℕ) (w n : ℕ) → w < length words → (m : ℕ) → is_marked words m ≡ true → is_marked (set words w (with_bit (get_or words w 0) (n % 64))) m ≡ true
other-marked words w n lt m marked =
    let x = get_or words w 0 in
    let y = with_bit x (n % 64) in
    let at = word_of words m in
    let was : bit_at (get_or words at 0) (m % 64) ≡ 1 = eqb-true (bit_at (get_or words at 0) (m % 64)) 1 marked in
    eq-eqb (bit_at (get_or (set words w y) (word_of (set words w y) m) 0) (m % 64)) 1
    (ap (λ z. bit_at z (m % 64)) (same_word words w y m)
    ∙ elim (cases_eq at w) as (λ _. bit_at (get_or (set words w y) at 0) (m % 64) ≡ 1) [
      | inl same ↦ ap (λ k. bit_at (get_or (set words w y) k 0) (m % 64)) same ∙ ap (λ z. bit_at z (m % 64)) (get_or-set_same words w y 0 lt)
          ∙ bit_stays x (n % 64) (m % 64) (mod_below n 64 (omega arith)) (ap (λ k. bit_at (get_or words k 0) (m % 64)) (sym same) ∙ was)
      | inr other ↦ ap (λ z. bit_at z (m % 64)) (get_or-set_other words w at y 0 other) ∙ was
    ])
