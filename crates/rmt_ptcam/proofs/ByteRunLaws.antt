-- Bytes of numbers, and up to four of them as one number.
use Rattle.std.proofs.Common.{◌≡◌, ℕ, zero, suc, ◌+◌, ◌-◌, ◌*◌, ◌/◌, ◌%◌, ◌^◌, ◌<◌, ◌≤◌, List, [], ◌∷◌, length, map, fold, refl, sym, ap, ◌∙◌, inl, inr, arith}
use Rattle.std.specs.Prelude.{All, bit_and, slice_index}
use Rattle.std.proofs.lemmas.Bool.{cases_lt}
use Rattle.std.proofs.lemmas.Nat.{shr-shr, shl-shr, and_block, pow_pos}
use Rattle.std.proofs.lemmas.List.{get_or_append_left, get_or_at}
use Rattle.std.proofs.lemmas.List.Elements.{All-nil, All-cons, All-head, All-tail}
use Rattle.rmt_bits.specs.Bits.{slice, bytes_of, number_of}
use Rattle.rmt_bits.proofs.ByteLaws.{AreBytes, bytes_of-number_of, length-bytes_of}
use Rattle.rmt_config.specs.Parser.{high_bytes}

-- ---- bytes of a number

-- a byte is eight bits
pub bytes_of-at : (count n o : ℕ) → o < count → slice_index (bytes_of count n) o ≡ slice n (8 * (count - 1 - o)) 8
bytes_of-at zero n o lt = absurd (omega (arith, lt))
bytes_of-at (suc count) n o lt = elim (cases_lt o count) [
  | inl front ↦
      let long = length-bytes_of count (n / 256) in
      let inside : o < length (bytes_of count (n / 256)) = omega (arith, long, front) in
      let place : 8 + 8 * (count - 1 - o) ≡ 8 * (suc count - 1 - o) = omega (arith, front) in
      get_or_append_left (bytes_of count (n / 256)) (n % 256 ∷ []) 0 o inside ∙ bytes_of-at count (n / 256) o front
      ∙ ap (λ k. k % 2 ^ 8) (shr-shr n 8 (8 * (count - 1 - o)) ∙ ap (λ k. n / 2 ^ k) place)
  | inr end ↦
      let last : count ≡ o = omega (arith, lt, end) in
      let none : 8 * (suc count - 1 - o) ≡ 0 = omega (arith, last) in
      let here : slice n 0 8 ≡ n % 256 = omega arith in
      get_or_at (bytes_of count (n / 256)) (n % 256) [] 0 o (length-bytes_of count (n / 256) ∙ last) ∙ sym (ap (λ k. slice n k 8) none ∙ here)
]

-- bytes are those of their number
pub byte_at : (bytes : List ℕ) (count o : ℕ) → AreBytes bytes → length bytes ≡ count → o < count → slice_index bytes o ≡ slice (number_of bytes) (8 * (count - 1 - o)) 8
byte_at bytes count o h long lt =
    ap (λ (xs : List ℕ). slice_index xs o) (sym (bytes_of-number_of bytes h)) ∙ ap (λ n. slice_index (bytes_of n (number_of bytes)) o) long ∙ bytes_of-at count (number_of bytes) o lt

-- ---- up to four bytes

pub map_same : (f g : ℕ → ℕ) (xs : List ℕ) → All (λ x. f x ≡ g x) xs → map f xs ≡ map g xs
map_same f g [] same = refl
map_same f g (x ∷ xs) same =
    ap (λ y. y ∷ map f xs) (All-head (λ z. f z ≡ g z) x xs same) ∙ ap (λ (ys : List ℕ). g x ∷ ys) (map_same f g xs (All-tail (λ z. f z ≡ g z) x xs same))

-- bytes behind a number
abbrev pub joined_to : ℕ → List ℕ → ℕ
joined_to n bytes = fold (λ m b. 256 * m + b) n bytes

pub high_is : (bytes : List ℕ) → length bytes ≤ 4 → high_bytes bytes ≡ joined_to 0 bytes * 2 ^ (8 * (4 - length bytes))
high_is [] few = refl
high_is (a ∷ []) few = omega arith
high_is (a ∷ b ∷ []) few = omega arith
high_is (a ∷ b ∷ c ∷ []) few = omega arith
high_is (a ∷ b ∷ c ∷ d ∷ []) few = omega arith
high_is (a ∷ b ∷ c ∷ d ∷ e ∷ bytes) few = absurd (omega (arith, few))

module _ (f g : ℕ → ℕ) (small_f : (o : ℕ) → f o < 256) (small_g : (o : ℕ) → g o < 256) where
  one_and : (a b o : ℕ) → bit_and (256 * a + f o) (256 * b + g o) ≡ 256 * bit_and a b + bit_and (f o) (g o)
  one_and a b o =
      let left : 256 * a + f o ≡ a * 2 ^ 8 + f o = omega arith in
      let right : 256 * b + g o ≡ b * 2 ^ 8 + g o = omega arith in
      let turned : bit_and a b * 2 ^ 8 + bit_and (f o) (g o) ≡ 256 * bit_and a b + bit_and (f o) (g o) = omega arith in
      ap (λ n. bit_and n (256 * b + g o)) left ∙ ap (bit_and (a * 2 ^ 8 + f o)) right ∙ and_block 8 a b (f o) (g o) (small_f o) (small_g o) ∙ turned

  joined_and : (os : List ℕ) (a b : ℕ) → bit_and (joined_to a (map f os)) (joined_to b (map g os)) ≡ joined_to (bit_and a b) (map (λ o. bit_and (f o) (g o)) os)
  joined_and [] a b = refl
  joined_and (o ∷ os) a b =
      joined_and os (256 * a + f o) (256 * b + g o) ∙ ap (λ n. joined_to n (map (λ o. bit_and (f o) (g o)) os)) (one_and a b o)

  joined_apart : (os : List ℕ) (a b : ℕ) → joined_to a (map f os) ≡ joined_to b (map g os) → (a ≡ b) × All (λ o. f o ≡ g o) os
  joined_apart [] a b same = (same, All-nil (λ o. f o ≡ g o))
  joined_apart (o ∷ os) a b same =
      let rest : (256 * a + f o ≡ 256 * b + g o) × All (λ o. f o ≡ g o) os = joined_apart os (256 * a + f o) (256 * b + g o) same in
      let left = small_f o in
      let right = small_g o in
      let parts = rest.0 in
      (omega (arith, left, right, parts), All-cons (λ o. f o ≡ g o) o os (omega (arith, left, right, parts)) rest.1)

  -- what two runs of bytes have in common, byte by byte
  pub high_and : (os : List ℕ) → length (map f os) ≡ length os → length (map g os) ≡ length os → length (map (λ o. bit_and (f o) (g o)) os) ≡ length os → length os ≤ 4
      → bit_and (high_bytes (map f os)) (high_bytes (map g os)) ≡ high_bytes (map (λ o. bit_and (f o) (g o)) os)
  high_and os long_f long_g long_and few =
      let k : ℕ = 8 * (4 - length os) in
      let by : (xs : List ℕ) → length xs ≡ length os → high_bytes xs ≡ joined_to 0 xs * 2 ^ k + 0 =
      λ xs long. high_is xs (omega (arith, long, few)) ∙ ap (λ n. joined_to 0 xs * 2 ^ (8 * (4 - n))) long ∙ (let e : joined_to 0 xs * 2 ^ k ≡ joined_to 0 xs * 2 ^ k + 0 = omega arith in e) in
      ap (λ n. bit_and n (high_bytes (map g os))) (by (map f os) long_f) ∙ ap (bit_and (joined_to 0 (map f os) * 2 ^ k + 0)) (by (map g os) long_g)
      ∙ and_block k (joined_to 0 (map f os)) (joined_to 0 (map g os)) 0 0 (pow_pos k) (pow_pos k)
      ∙ ap (λ n. n * 2 ^ k + 0) (joined_and os 0 0) ∙ sym (by (map (λ o. bit_and (f o) (g o)) os) long_and)

  -- runs of bytes with one number have the same bytes
  pub high_apart : (os : List ℕ) → length (map f os) ≡ length os → length (map g os) ≡ length os → length os ≤ 4 → high_bytes (map f os) ≡ high_bytes (map g os) → All (λ o. f o ≡ g o) os
  high_apart os long_f long_g few same =
      let k : ℕ = 8 * (4 - length os) in
      let by : (xs : List ℕ) → length xs ≡ length os → high_bytes xs ≡ joined_to 0 xs * 2 ^ k =
      λ xs long. high_is xs (omega (arith, long, few)) ∙ ap (λ n. joined_to 0 xs * 2 ^ (8 * (4 - n))) long in
      let down : joined_to 0 (map f os) ≡ joined_to 0 (map g os) =
      sym (shl-shr (joined_to 0 (map f os)) k) ∙ ap (λ n. n / 2 ^ k) (sym (by (map f os) long_f) ∙ same ∙ by (map g os) long_g) ∙ shl-shr (joined_to 0 (map g os)) k in
      (joined_apart os 0 0 down).1
