-- Sets after a step, and numbers that two sets have.
use Rattle.std.proofs.Common.{◌≡◌, ◌≢◌, ℕ, ◌+◌, ◌*◌, ◌/◌, ◌%◌, ◌<◌, ◌≤◌, ◌^◌, List, length, get_or, ◌||◌, max, min, eqb, refl, sym, ap, ◌∙◌, inl, inr, bit_and, bit_or, w64, arith}
use Rattle.std.proofs.Math.ListN.{set}
use Rattle.std.specs.Int.{bit_at, trailing_zeros}
use Rattle.std.proofs.lemmas.Bool.{cases_eq, eq-eqb, ne_eqb, eqb-true, cases_lt}
use Rattle.std.proofs.lemmas.Bool.Decides.{nat_tests}
use Rattle.std.proofs.lemmas.Nat.{and_le_l}
use Rattle.std.proofs.lemmas.Nat.Bits.{bit_at_set_same, bit_at_set_other, bit_at_or, bit_at_and, bit_at-lt, bit_at-zero, bit_at-trailing_zeros}
use Rattle.std.proofs.lemmas.List.{get_or-set_same, get_or-set_other, get_or_past}
use Rattle.rmt_phv.specs.Sets.{has, Meet}

-- the set after one more number
pub has-insert : (s : List ℕ) (number n : ℕ) → number / 64 < length s
    → has (set s (number / 64) (bit_or (get_or s (number / 64) 0) (1 * 2 ^ (number % 64) % 2 ^ 64))) n ≡ (eqb n number || has s n)
has-insert s number n lt =
    elim (cases_eq (n / 64) (number / 64)) [
      | inl same ↦ in_block same
      | inr other ↦
          rw (get_or-set_other s (number / 64) (n / 64) (bit_or (get_or s (number / 64) 0) (1 * 2 ^ (number % 64) % 2 ^ 64)) 0 other)
          (let apart : n ≡ number → ⊥ = λ e. other (ap (λ k. k / 64) e) in rw (ne_eqb n number apart) refl)
    ]
  where
    in_block : n / 64 ≡ number / 64 → has (set s (number / 64) (bit_or (get_or s (number / 64) 0) (1 * 2 ^ (number % 64) % 2 ^ 64))) n ≡ (eqb n number || has s n)
    in_block same =
        let read : get_or (set s (number / 64) (bit_or (get_or s (number / 64) 0) (1 * 2 ^ (number % 64) % 2 ^ 64))) (n / 64) 0 ≡ bit_or (get_or s (number / 64) 0) (1 * 2 ^ (number % 64) % 2 ^ 64) =
        ap (λ k. get_or (set s (number / 64) (bit_or (get_or s (number / 64) 0) (1 * 2 ^ (number % 64) % 2 ^ 64))) k 0) same
        ∙ get_or-set_same s (number / 64) (bit_or (get_or s (number / 64) 0) (1 * 2 ^ (number % 64) % 2 ^ 64)) 0 lt in
        elim (cases_eq (n % 64) (number % 64)) [
          | inl rest ↦
              let here : n ≡ number = omega arith in
              rw (read, rest, bit_at_set_same w64 (get_or s (number / 64) 0) (number % 64) (omega arith), eq-eqb n number here) refl
          | inr rest ↦
              let apart : n ≡ number → ⊥ = λ e. rest (ap (λ k. k % 64) e) in
              rw (read, bit_at_set_other w64 (get_or s (number / 64) 0) (number % 64) (omega arith) (n % 64) rest, ne_eqb n number apart)
              (ap (λ k. eqb (bit_at (get_or s k 0) (n % 64)) 1) (sym same))
        ]

-- the bits of a union
either : (a b i : ℕ) → eqb (bit_at (bit_or a b) i) 1 ≡ (eqb (bit_at a i) 1 || eqb (bit_at b i) 1)
either a b i = bit (bit_at a i) (bit_at b i) (bit_at (bit_or a b) i) (bit_at-lt a i) (bit_at-lt b i) (bit_at_or a b i)
  where
    bit : (x y z : ℕ) → x < 2 → y < 2 → z ≡ max x y → eqb z 1 ≡ (eqb x 1 || eqb y 1)
    bit x y z x_bit y_bit e = grind (arith, nat_tests)

-- the set after all numbers of another, block by block
pub has-insert_all : (s t u : List ℕ) → length t ≡ length s → ((k : ℕ) → k < length t → get_or u k 0 ≡ bit_or (get_or s k 0) (get_or t k 0))
    → ((k : ℕ) → length t ≤ k → get_or u k 0 ≡ get_or s k 0) → (n : ℕ) → has u n ≡ (has s n || has t n)
has-insert_all s t u long below past n =
    elim (cases_lt (n / 64) (length t)) [
      | inl lt ↦ ap (λ k. eqb (bit_at k (n % 64)) 1) (below (n / 64) lt) ∙ either (get_or s (n / 64) 0) (get_or t (n / 64) 0) (n % 64)
      | inr le ↦
          let none_t : get_or t (n / 64) 0 ≡ 0 = get_or_past t (n / 64) 0 le in
          let none_s : get_or s (n / 64) 0 ≡ 0 = get_or_past s (n / 64) 0 (omega arith) in
          let none_u : get_or u (n / 64) 0 ≡ 0 = past (n / 64) le ∙ none_s in
          rw (none_u, none_s, none_t, bit_at-zero (n % 64)) refl
    ]

-- two blocks with a bit in common
pub meet_here : (a b : List ℕ) (k : ℕ) → get_or a k 0 < 2 ^ 64 → bit_and (get_or a k 0) (get_or b k 0) ≢ 0 → Meet a b
meet_here a b k fits some =
    let x = get_or a k 0 in
    let y = get_or b k 0 in
    let both = bit_and x y in
    let lowest = bit_at-trailing_zeros w64 both (omega (arith, some)) (omega (arith, and_le_l x y)) in
    let i = trailing_zeros w64 both in
    let least : min (bit_at x i) (bit_at y i) ≡ 1 = sym (bit_at_and x y i) ∙ lowest.1 in
    let n : ℕ = k * 64 + i in
    let below : i < 64 = lowest.0 in
    let quotient : n / 64 ≡ k = omega arith in
    let rest : n % 64 ≡ i = omega arith in
    let in_a : bit_at x i ≡ 1 = omega (arith, bit_at-lt x i, bit_at-lt y i) in
    let in_b : bit_at y i ≡ 1 = omega (arith, bit_at-lt x i, bit_at-lt y i) in
    (n, (eq-eqb (bit_at (get_or a (n / 64) 0) (n % 64)) 1 (at a n k i quotient rest ∙ in_a), eq-eqb (bit_at (get_or b (n / 64) 0) (n % 64)) 1 (at b n k i quotient rest ∙ in_b)))
  where
    at : (s : List ℕ) (n k i : ℕ) → n / 64 ≡ k → n % 64 ≡ i → bit_at (get_or s (n / 64) 0) (n % 64) ≡ bit_at (get_or s k 0) i
    at s n k i quotient rest = ap (λ q. bit_at (get_or s q 0) (n % 64)) quotient ∙ ap (λ r. bit_at (get_or s k 0) r) rest

-- no block with a bit in common
pub meet_none : (a b : List ℕ) → ((k : ℕ) → k < length a → bit_and (get_or a k 0) (get_or b k 0) ≡ 0) → Meet a b → ⊥
meet_none a b none (n, both) =
    let x = get_or a (n / 64) 0 in
    let y = get_or b (n / 64) 0 in
    let in_a : bit_at x (n % 64) ≡ 1 = eqb-true (bit_at x (n % 64)) 1 both.0 in
    let in_b : bit_at y (n % 64) ≡ 1 = eqb-true (bit_at y (n % 64)) 1 both.1 in
    elim (cases_lt (n / 64) (length a)) [
      | inl lt ↦
          let zero_bit : bit_at (bit_and x y) (n % 64) ≡ 0 = ap (λ v. bit_at v (n % 64)) (none (n / 64) lt) ∙ bit_at-zero (n % 64) in
          omega (arith, bit_at_and x y (n % 64), zero_bit, in_a, in_b)
      | inr le ↦
          let past : bit_at x (n % 64) ≡ 0 = ap (λ v. bit_at v (n % 64)) (get_or_past a (n / 64) 0 le) ∙ bit_at-zero (n % 64) in
          omega (arith, past, in_a)
    ]
