-- Keys and rows in words of 40 bits.
use Rattle.std.proofs.Common.{◌≡◌, ℕ, zero, suc, ◌+◌, ◌-◌, ◌*◌, ◌/◌, ◌%◌, ◌^◌, ◌<◌, ◌≤◌, min, List, [], ◌∷◌, length, get_or, take, map, sym, refl, ap, ◌∙◌, subst, arith, inl, inr}
use Rattle.std.specs.Prelude.{bit_and}
use Rattle.std.proofs.lemmas.Bool.{cases_lt}
use Rattle.std.proofs.lemmas.Grind.{same_number_lists}
use Rattle.std.proofs.lemmas.Nat.{shr_below, shr-shr, pow_pos, pow-add, div-add-mod', and_mod, and_shr, mod-mul-add, div-mul-add}
use Rattle.std.proofs.Math.Nat.{mod-eq_of_lt, div-one}
use Rattle.rmt_bits.specs.Bits.{slice, number_of}
use Rattle.rmt_bits.proofs.ByteLaws.{AreBytes, number_of-lt}
use Rattle.rmt_config.specs.Cells.{Blocks, unit_row}
use Rattle.rmt_config.proofs.UnitBits.{Within}
use Rattle.rmt_memory.specs.KeyWords.{words_of, words_of_key, masked}
use Rattle.rmt_config.proofs.SpelledBytes.{mul-more}

-- ---- a word of bytes

pub wider : (n a b : ℕ) → a ≤ b → n < 2 ^ a → n < 2 ^ b
wider n a b le lt =
    let e : b ≡ a + (b - a) = omega (arith, le) in
    subst (λ m. n < 2 ^ m) (sym e) (rw (pow-add 2 a (b - a)) (let more = mul-more (2 ^ a) (2 ^ (b - a)) (pow_pos (b - a)) in omega (arith, lt, more)))

pub word-is : (bytes : List ℕ) (low len from : ℕ) → AreBytes bytes → low < 8 * length bytes → len ≡ min (8 * length bytes - low) 40
    → from + (low + len) ≡ 8 * length bytes → slice (number_of bytes) (8 * length bytes - (from + len)) len ≡ slice (number_of bytes) low 40
word-is bytes low len from are lt is whole =
    let n = number_of bytes in
    let at : 8 * length bytes - (from + len) ≡ low = omega (arith, whole) in
    ap (λ m. slice n m len) at
    ∙ elim (cases_lt len 40) as (λ _. slice n low len ≡ slice n low 40) [
      | inl less ↦
          let last : low + len ≡ 8 * length bytes = omega (arith, less, is, lt) in
          let turned : len + low ≡ 8 * length bytes = omega (arith, last) in
          let small : n / 2 ^ low < 2 ^ len = shr_below n len low (subst (λ m. n < 2 ^ m) (sym turned) (number_of-lt bytes are)) in
          mod-eq_of_lt small ∙ sym (mod-eq_of_lt (wider (n / 2 ^ low) len 40 (omega (arith, less)) small))
      | inr more ↦ let e : len ≡ 40 = omega (arith, more, is) in ap (slice n low) e
    ]

-- ---- lists of words

pub length-words : (count n : ℕ) → length (words_of count n) ≡ count
length-words zero n = refl
length-words (suc count) n = ap suc (length-words count (n / 2 ^ 40))

pub word-of : (count n k : ℕ) → k < count → get_or (words_of count n) k 0 ≡ slice n (40 * k) 40
word-of zero n k lt = absurd (omega (arith, lt))
word-of (suc count) n zero lt = let e : 40 * 0 ≡ 0 = omega arith in sym (ap (λ m. n / 2 ^ m % 2 ^ 40) e ∙ ap (λ m. m % 2 ^ 40) (div-one n))
word-of (suc count) n (suc k) lt =
    let e : 40 + 40 * k ≡ 40 * suc k = omega arith in
    word-of count (n / 2 ^ 40) k (omega (arith, lt)) ∙ ap (λ m. m % 2 ^ 40) (shr-shr n 40 (40 * k)) ∙ ap (λ m. n / 2 ^ m % 2 ^ 40) e

pub words-from_each : (count n : ℕ) (words : List ℕ) → length words ≡ count → ((k : ℕ) → k < count → get_or words k 0 ≡ slice n (40 * k) 40) → words ≡ words_of count n
words-from_each count n words size each =
    let all = length-words count n in
    same_number_lists words (words_of count n) (omega (arith, size, all))
    (λ k lt. each k (omega (arith, lt, size)) ∙ sym (word-of count n k (omega (arith, lt, size))))

-- the lowest words of a number
pub words-low : (count more n : ℕ) → take count (words_of (count + more) n) ≡ words_of count n
words-low zero more n = refl
words-low (suc count) more n =
    let e : suc count + more ≡ suc (count + more) = omega arith in
    ap (λ m. take (suc count) (words_of m n)) e ∙ ap (λ ws. n % 2 ^ 40 ∷ ws) (words-low count more (n / 2 ^ 40))

pub key-words : (n : ℕ) → words_of_key n ≡ words_of 16 n
unfolding words_of_key
key-words n = refl

pub length-masked : (masks words : List ℕ) → length (masked masks words) ≡ min (length masks) (length words)
length-masked [] words = omega arith
length-masked (m ∷ ms) [] = omega arith
length-masked (m ∷ ms) (k ∷ ks) = let rest = length-masked ms ks in omega (arith, rest)

pub masked-at : (masks words : List ℕ) (k : ℕ) → k < length masks → k < length words → get_or (masked masks words) k 0 ≡ bit_and (get_or words k 0) (get_or masks k 0)
masked-at [] words k lm lw = absurd (omega (arith, lm))
masked-at (m ∷ ms) [] k lm lw = absurd (omega (arith, lw))
masked-at (m ∷ ms) (w ∷ ws) zero lm lw = refl
masked-at (m ∷ ms) (w ∷ ws) (suc k) lm lw = masked-at ms ws k (omega (arith, lm)) (omega (arith, lw))

-- a key that masks leave, where the key has at least as many words
pub masked-words : (count more key mask : ℕ) → masked (words_of count mask) (words_of (count + more) key) ≡ words_of count (bit_and key mask)
masked-words zero more key mask = refl
masked-words (suc count) more key mask =
    let e : suc count + more ≡ suc (count + more) = omega arith in
    ap (λ n. masked (words_of (suc count) mask) (words_of n key)) e
    ∙ ap (λ w. w ∷ masked (words_of count (mask / 2 ^ 40)) (words_of (count + more) (key / 2 ^ 40))) (sym (and_mod key mask 40))
    ∙ ap (λ ws. bit_and key mask % 2 ^ 40 ∷ ws) (masked-words count more (key / 2 ^ 40) (mask / 2 ^ 40))
    ∙ ap (λ n. bit_and key mask % 2 ^ 40 ∷ words_of count n) (sym (and_shr key mask 40))

-- numbers with the same parts of so many bits are the same
pub same-parts : (w count a b : ℕ) → a < 2 ^ (w * count) → b < 2 ^ (w * count) → ((i : ℕ) → i < count → slice a (w * i) w ≡ slice b (w * i) w) → a ≡ b
same-parts w zero a b la lb each =
    let none : w * 0 ≡ 0 = omega arith in
    let one_a : a < 1 = subst (λ m. a < 2 ^ m) none la in
    let one_b : b < 1 = subst (λ m. b < 2 ^ m) none lb in
    omega (arith, one_a, one_b)
same-parts w (suc count) a b la lb each =
    let more : w * suc count ≡ w * count + w = omega arith in
    let high_a : a / 2 ^ w < 2 ^ (w * count) = shr_below a (w * count) w (subst (λ m. a < 2 ^ m) more la) in
    let high_b : b / 2 ^ w < 2 ^ (w * count) = shr_below b (w * count) w (subst (λ m. b < 2 ^ m) more lb) in
    let up : (n i : ℕ) → slice (n / 2 ^ w) (w * i) w ≡ slice n (w * suc i) w =
    λ n i. ap (λ m. m % 2 ^ w) (shr-shr n w (w * i)) ∙ ap (λ m. n / 2 ^ m % 2 ^ w) (let e : w + w * i ≡ w * suc i = omega arith in e) in
    let high = same-parts w count (a / 2 ^ w) (b / 2 ^ w) high_a high_b (λ i lt. up a i ∙ each (suc i) (omega (arith, lt)) ∙ sym (up b i)) in
    let none : w * 0 ≡ 0 = omega arith in
    let first : (n : ℕ) → slice n (w * 0) w ≡ n % 2 ^ w = λ n. ap (λ m. n / 2 ^ m % 2 ^ w) none ∙ ap (λ m. m % 2 ^ w) (div-one n) in
    let low : a % 2 ^ w ≡ b % 2 ^ w = sym (first a) ∙ each 0 (omega arith) ∙ first b in
    sym (div-add-mod' a (2 ^ w)) ∙ ap (λ n. n * 2 ^ w + a % 2 ^ w) high ∙ ap (λ n. b / 2 ^ w * 2 ^ w + n) low ∙ div-add-mod' b (2 ^ w)

-- numbers with the same words are the same
pub same-words : (count a b : ℕ) → a < 2 ^ (40 * count) → b < 2 ^ (40 * count) → words_of count a ≡ words_of count b → a ≡ b
same-words count a b la lb e =
    same-parts 40 count a b la lb (λ i lt. sym (word-of count a i lt) ∙ ap (λ ws. get_or ws i 0) e ∙ word-of count b i lt)

-- the words of blocks side by side are those of the blocks
pub words-unit : (held : Blocks) (row : ℕ) (blocks : List ℕ) → Within 40 held → words_of (length blocks) (unit_row 40 held row blocks) ≡ map (λ b. held b row) blocks
words-unit held row [] small = refl
words-unit held row (b ∷ bs) small =
    let x = held b row in
    let rest = unit_row 40 held row bs in
    let lt : x < 2 ^ 40 = small b row in
    let turned : x + 2 ^ 40 * rest ≡ rest * 2 ^ 40 + x = omega arith in
    let low : (x + 2 ^ 40 * rest) % 2 ^ 40 ≡ x = ap (λ n. n % 2 ^ 40) turned ∙ mod-mul-add rest (2 ^ 40) x lt in
    let high : (x + 2 ^ 40 * rest) / 2 ^ 40 ≡ rest = ap (λ n. n / 2 ^ 40) turned ∙ div-mul-add rest (2 ^ 40) x lt in
    ap (λ n. n ∷ words_of (length bs) ((x + 2 ^ 40 * rest) / 2 ^ 40)) low
    ∙ ap (λ n. x ∷ words_of (length bs) n) high ∙ ap (λ ws. x ∷ ws) (words-unit held row bs small)
