-- Whether bytes are the same number.
use Rattle.std.proofs.Common.{◌≡◌, ◌≢◌, ℕ, zero, suc, ◌+◌, ◌-◌, ◌*◌, ◌^◌, ◌<◌, ◌≤◌, ◌==◌, false, List, [], ◌∷◌, ◌++◌, get_or, length, take, drop, refl, sym, ap, ◌∙◌, arith}
use Rattle.std.specs.Str.{bytes_eq}
use Rattle.std.proofs.lemmas.Bool.{eq-eqb, eqb-true, false≢true, ne_eqb}
use Rattle.std.proofs.lemmas.List.{length-drop, take-append-drop, take_all, take_more}
use Rattle.std.proofs.lemmas.Nat.{pow_pos, rows}
use Rattle.std.proofs.lemmas.Slice.Eq.{bytes_eq-Decides}
use Rattle.rmt_bits.specs.Bits.{bytes_of, number_of}
use Rattle.rmt_bits.proofs.ByteLaws.{AreBytes-drop, bytes_of-number_of, number_of-append, number_of-lt, number_of_push}
use Rattle.rmt_bits.proofs.OptionLaws.{same_Bool}

-- one byte more
pub zero-more : (bytes : List ℕ) (i b : ℕ) → i < length bytes → b ≡ get_or bytes i b → number_of (take i bytes) ≡ 0 → number_of (take (i + 1) bytes) ≡ b
zero-more bytes i b lt is none =
    let more = number_of_push (take i bytes) b in
    ap number_of (take_more bytes i b lt ∙ ap (λ z. take i bytes ++ z ∷ []) (sym is)) ∙ omega (arith, more, none)

some-product : (a b m n k : ℕ) → a < m → b < n → k ≡ m * n → a + m * b < k
some-product a b m n k la lb e = grind (arith, rows)

-- a byte that isn't 0
pub not-zero : (bytes : List ℕ) (i b : ℕ) → i < length bytes → b ≡ get_or bytes i b → number_of (take i bytes) ≡ 0 → b ≢ 0 → (number_of bytes == 0) ≡ false
not-zero bytes i b lt is none some =
    let front = number_of (take (i + 1) bytes) in
    let rest = drop (i + 1) bytes in
    let own : front ≡ b = zero-more bytes i b lt is none in
    let all : number_of bytes ≡ front * 2 ^ (8 * length rest) + number_of rest = ap number_of (sym (take-append-drop (i + 1) bytes)) ∙ number_of-append (take (i + 1) bytes) rest in
    let power = pow_pos (8 * length rest) in
    let more : 0 < front * 2 ^ (8 * length rest) = (let lt2 = some-product 0 0 front (2 ^ (8 * length rest)) (front * 2 ^ (8 * length rest)) (omega (arith, own, some)) (omega (arith, power)) refl in omega (arith, lt2)) in
    ne_eqb (number_of bytes) 0 (λ e. absurd (omega (arith, e, all, more)))

-- ---- bytes that begin with bytes that are 0

abbrev Bytes : List ℕ → Type 0
Bytes bytes = (k : ℕ) → get_or bytes k 0 < 2 ^ 8

-- as many bytes as others behind the first ones
tail-long : (bytes short : List ℕ) → length short ≤ length bytes → length (drop (length bytes - length short) bytes) ≡ length short
tail-long bytes short le = let l = length-drop (length bytes - length short) bytes in omega (arith, l, le)

whole-tail : (bytes short : List ℕ) → length short ≤ length bytes → take (length bytes - (length bytes - length short)) (drop (length bytes - length short) bytes) ≡ drop (length bytes - length short) bytes
whole-tail bytes short le = let l = tail-long bytes short le in take_all (length bytes - (length bytes - length short)) (drop (length bytes - length short) bytes) (omega (arith, l, le))

parts-number : (bytes : List ℕ) (n : ℕ) → number_of bytes ≡ number_of (take n bytes) * 2 ^ (8 * length (drop n bytes)) + number_of (drop n bytes)
parts-number bytes n = ap number_of (sym (take-append-drop n bytes)) ∙ number_of-append (take n bytes) (drop n bytes)

-- then they are the number that the others are
pub tail-same : (bytes short : List ℕ) → Bytes bytes → Bytes short → length short ≤ length bytes → number_of (take (length bytes - length short) bytes) ≡ 0
    → bytes_eq (take (length bytes - (length bytes - length short)) (drop (length bytes - length short) bytes)) short ≡ (number_of bytes == number_of short)
tail-same bytes short all own le none =
    let n = length bytes - length short in
    let tail = drop (length bytes - length short) bytes in
    let number : number_of bytes ≡ number_of (drop (length bytes - length short) bytes) =
    parts-number bytes n ∙ ap (λ z. z * 2 ^ (8 * length (drop (length bytes - length short) bytes)) + number_of (drop (length bytes - length short) bytes)) none ∙ omega arith in
    ap (λ xs. bytes_eq xs short) (whole-tail bytes short le)
    ∙ same_Bool (bytes_eq (drop (length bytes - length short) bytes) short) (number_of bytes == number_of short)
    (λ e. eq-eqb (number_of bytes) (number_of short) (number ∙ ap number_of ((bytes_eq-Decides tail short).0 e)))
    (λ e. (bytes_eq-Decides tail short).1
    (sym (bytes_of-number_of tail (λ k. AreBytes-drop n bytes all k)) ∙ ap (λ m. bytes_of m (number_of tail)) (tail-long bytes short le)
    ∙ ap (bytes_of (length short)) (sym number ∙ eqb-true (number_of bytes) (number_of short) e) ∙ bytes_of-number_of short own))

-- and else they aren't
pub front-other : (bytes short : List ℕ) → Bytes bytes → Bytes short → length short ≤ length bytes → (number_of (take (length bytes - length short) bytes) == 0) ≡ false → false ≡ (number_of bytes == number_of short)
front-other bytes short all own le some =
    let n = length bytes - length short in
    let front = number_of (take (length bytes - length short) bytes) in
    let tail = drop (length bytes - length short) bytes in
    let long = tail-long bytes short le in
    let power : 2 ^ (8 * length tail) ≡ 2 ^ (8 * length short) = ap (λ m. 2 ^ (8 * m)) long in
    let low = number_of-lt short own in
    let number = parts-number bytes n in
    let other : front ≢ 0 = λ e. false≢true (sym some ∙ eq-eqb front 0 e) in
    let more = at-least front (2 ^ (8 * length tail)) (front * 2 ^ (8 * length tail)) other refl in
    sym (ne_eqb (number_of bytes) (number_of short) (λ e. absurd (omega (arith, e, number, more, low, power))))
  where
    at-least : (a p k : ℕ) → a ≢ 0 → k ≡ a * p → p ≤ k
    at-least zero p k ne e = absurd (ne refl)
    at-least (suc a) p k ne e = grind (arith, rows)
