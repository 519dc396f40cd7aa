-- Laws of runs of bytes as numbers.
use Rattle.std.proofs.Common.{◌≡◌, ℕ, zero, suc, refl, ◌+◌, ◌-◌, ◌*◌, ◌/◌, ◌%◌, ◌^◌, ◌<◌, ◌≤◌, List, [], ◌∷◌, ◌++◌, length, get_or, set, take, drop, fold, sym, ap, ◌∙◌, subst, arith, replicate, inl, inr}
use Rattle.std.proofs.lemmas.Nat.{pow-add, mul-add-lt, shr_split, shr-shr, shr_high, mod_low, mod-pow-add, div_below}
use Rattle.std.proofs.lemmas.List.Sums.{fold-append, fold_push}
use Rattle.std.proofs.lemmas.Bool.{cases_lt}
use Rattle.std.proofs.lemmas.List.{length-append, length-take, get_or-take, get_or_past, take_all, take_more, take-append-drop, length-drop, get_or-drop, length-set, take-set, get_or-set_same, drop-set-lt}
use Rattle.std.proofs.Math.Nat.{mod-eq_of_lt, div-eq_of_lt}
use Rattle.std.proofs.Math.Pow.{ones_lt, pow_mono}
use Rattle.rmt_bits.specs.Bits.{slice, deposit, number_of, bytes_of, bits_of_bytes}
use Rattle.rmt_bits.proofs.BitLaws.{slice-lt, slice-add, slice-from_low, mod-from_low, high_part-lt, deposit-add, deposit-lt}

-- the number that a run of bytes continues
pub number_from : (a : ℕ) (bytes : List ℕ) → fold (λ n b. 256 * n + b) a bytes ≡ a * 2 ^ (8 * length bytes) + number_of bytes
number_from a [] = omega arith
number_from a (b ∷ bytes) =
    let one = number_from (256 * a + b) bytes in
    let two = number_from (256 * 0 + b) bytes in
    let grown : 2 ^ (8 * length (b ∷ bytes)) ≡ 256 * 2 ^ (8 * length bytes) =
    ap (λ k. 2 ^ k) (let m : 8 * length (b ∷ bytes) ≡ 8 + 8 * length bytes = omega arith in m) ∙ pow-add 2 8 (8 * length bytes) in
    rw grown (omega (arith, one, two))

pub number_of-append : (front back : List ℕ) → number_of (front ++ back) ≡ number_of front * 2 ^ (8 * length back) + number_of back
number_of-append front back = fold-append (λ n b. 256 * n + b) 0 front back ∙ number_from (number_of front) back

pub number_of_push : (front : List ℕ) (b : ℕ) → number_of (front ++ b ∷ []) ≡ 256 * number_of front + b
number_of_push front b = fold_push (λ n b. 256 * n + b) 0 front b

-- every byte is below 256
abbrev pub AreBytes : List ℕ → Type 0
AreBytes bytes = (i : ℕ) → get_or bytes i 0 < 256

pub number_of-lt : (bytes : List ℕ) → AreBytes bytes → number_of bytes < 2 ^ (8 * length bytes)
number_of-lt [] h = omega arith
number_of-lt (b ∷ bytes) h =
    let rest : number_of bytes < 2 ^ (8 * length bytes) = number_of-lt bytes (λ i. h (suc i)) in
    let here : b < 256 = h 0 in
    let e = number_from (256 * 0 + b) bytes in
    let grown : 2 ^ (8 * length (b ∷ bytes)) ≡ 2 ^ (8 * length bytes) * 256 =
    ap (λ k. 2 ^ k) (let m : 8 * length (b ∷ bytes) ≡ 8 * length bytes + 8 = omega arith in m) ∙ pow-add 2 (8 * length bytes) 8 in
    let bound = mul-add-lt b (2 ^ (8 * length bytes)) (number_of bytes) 256 here rest in
    rw grown (omega (arith, e, bound))

-- a run of bytes around one of them
pub number_of_split : (bytes : List ℕ) (k : ℕ) → k < length bytes
    → number_of bytes ≡ (number_of (take k bytes) * 2 ^ 8 + get_or bytes k 0) * 2 ^ (8 * (length bytes - (k + 1))) + number_of (drop (k + 1) bytes)
number_of_split bytes k h =
    let parts : number_of bytes ≡ number_of (take (k + 1) bytes ++ drop (k + 1) bytes) = ap number_of (sym (take-append-drop (k + 1) bytes)) in
    let front : number_of (take (k + 1) bytes) ≡ 256 * number_of (take k bytes) + get_or bytes k 0 =
    ap number_of (take_more bytes k 0 h) ∙ number_of_push (take k bytes) (get_or bytes k 0) in
    let front' : number_of (take (k + 1) bytes) ≡ number_of (take k bytes) * 2 ^ 8 + get_or bytes k 0 = omega (arith, front) in
    parts ∙ number_of-append (take (k + 1) bytes) (drop (k + 1) bytes)
    ∙ ap (λ n. number_of (take (k + 1) bytes) * 2 ^ (8 * n) + number_of (drop (k + 1) bytes)) (length-drop (k + 1) bytes)
    ∙ ap (λ n. n * 2 ^ (8 * (length bytes - (k + 1))) + number_of (drop (k + 1) bytes)) front'

-- parts of bytes are bytes
pub AreBytes-drop : (n : ℕ) (bytes : List ℕ) → AreBytes bytes → AreBytes (drop n bytes)
AreBytes-drop n bytes h i = rw get_or-drop (h (n + i))

pub AreBytes-take : (n : ℕ) (bytes : List ℕ) → AreBytes bytes → AreBytes (take n bytes)
AreBytes-take n bytes h i =
    elim (cases_lt i n) [
      | inl lt ↦ rw (get_or-take n bytes i 0 lt) (h i)
      | inr le ↦ rw (get_or_past (take n bytes) i 0 (omega (arith, length-take n bytes))) (omega arith)
    ]

pub AreBytes-rest : (b : ℕ) (bytes : List ℕ) → AreBytes (b ∷ bytes) → AreBytes bytes
AreBytes-rest b bytes h i = h (suc i)

number_of-drop-lt : (bytes : List ℕ) (n : ℕ) → AreBytes bytes → number_of (drop n bytes) < 2 ^ (8 * (length bytes - n))
number_of-drop-lt bytes n h =
    subst (λ k. number_of (drop n bytes) < 2 ^ (8 * k)) (length-drop n bytes) (number_of-lt (drop n bytes) (AreBytes-drop n bytes h))

-- low bits of a number whose higher bits are not looked at
pub slice_low : (f b s t : ℕ) → b < 2 ^ 8 → s + t ≤ 8 → slice (f * 2 ^ 8 + b) s t ≡ slice b s t
slice_low f b s t hb within =
    let small : b % 2 ^ 8 ≡ b = omega arith in
    slice-from_low (f * 2 ^ 8 + b) b s t 8 within (mod_low f 8 b hb ∙ sym small)

-- bits inside one byte
pub bits_of_byte : (bytes : List ℕ) (k r t : ℕ) → AreBytes bytes → k < length bytes → r + t ≤ 8
    → bits_of_bytes bytes (8 * k + r) t ≡ slice (get_or bytes k 0) (8 - (r + t)) t
bits_of_byte bytes k r t h hk within =
    let m = 8 * (length bytes - (k + 1)) in
    let s = 8 - (r + t) in
    let g = number_of (take k bytes) * 2 ^ 8 + get_or bytes k 0 in
    let place : 8 * length bytes - (8 * k + r + t) ≡ m + s = omega arith in
    let down : number_of bytes / 2 ^ m ≡ g =
    ap (λ n. n / 2 ^ m) (number_of_split bytes k hk) ∙ shr_high g m (number_of (drop (k + 1) bytes)) (number_of-drop-lt bytes (k + 1) h) in
    let inner : s + t ≤ 8 = omega arith in
    ap (λ n. slice (number_of bytes) n t) place
    ∙ ap (λ n. n % 2 ^ t) (sym (shr-shr (number_of bytes) m s) ∙ ap (λ n. n / 2 ^ s) down)
    ∙ slice_low (number_of (take k bytes)) (get_or bytes k 0) s t (h k) inner

-- bits one after another
pub bits_of_bytes-add : (bytes : List ℕ) (from a b : ℕ) → from + (a + b) ≤ 8 * length bytes
    → bits_of_bytes bytes from (a + b) ≡ bits_of_bytes bytes from a * 2 ^ b + bits_of_bytes bytes (from + a) b
bits_of_bytes-add bytes from a b within =
    let n = number_of bytes in
    let low = 8 * length bytes - (from + (a + b)) in
    let high : low + b ≡ 8 * length bytes - (from + a) = omega arith in
    let same : low ≡ 8 * length bytes - (from + a + b) = omega arith in
    slice-add n low a b ∙ ap (λ k. slice n k a * 2 ^ b + slice n low b) high
    ∙ ap (λ k. slice n (8 * length bytes - (from + a)) a * 2 ^ b + slice n k b) same

-- a deposit in the high part of a number
pub deposit-raised : (h m l s t x : ℕ) → l < 2 ^ m → deposit (h * 2 ^ m + l) (m + s) t x ≡ deposit h s t x * 2 ^ m + l
deposit-raised h m l s t x hl =
    let n = h * 2 ^ m + l in
    let down : n / 2 ^ m ≡ h = shr_high h m l hl in
    let least : n % 2 ^ m ≡ l = mod_low h m l hl in
    let turned : m + s ≡ s + m = omega arith in
    let top : m + s + t ≡ m + (s + t) = omega arith in
    let high : n / 2 ^ (m + s + t) ≡ h / 2 ^ (s + t) = ap (λ k. n / 2 ^ k) top ∙ sym (shr-shr n m (s + t)) ∙ ap (λ k. k / 2 ^ (s + t)) down in
    let rest : n % 2 ^ (m + s) ≡ h % 2 ^ s * 2 ^ m + l =
    ap (λ k. n % 2 ^ k) turned ∙ mod-pow-add n s m ∙ ap (λ k. k % 2 ^ s * 2 ^ m + n % 2 ^ m) down ∙ ap (λ k. h % 2 ^ s * 2 ^ m + k) least in
    let p : 2 ^ (m + s + t) ≡ 2 ^ m * 2 ^ (s + t) = ap (λ k. 2 ^ k) top ∙ pow-add 2 m (s + t) in
    let q : 2 ^ (m + s) ≡ 2 ^ m * 2 ^ s = pow-add 2 m s in
    rw (high, rest, p, q) (omega arith)

-- a deposit in the low eight bits
pub deposit_low : (f b s t x : ℕ) → b < 2 ^ 8 → s + t ≤ 8 → deposit (f * 2 ^ 8 + b) s t x ≡ f * 2 ^ 8 + deposit b s t x
deposit_low f b s t x hb within =
    let n = f * 2 ^ 8 + b in
    let small : b % 2 ^ 8 ≡ b = omega arith in
    let agree : n % 2 ^ 8 ≡ b % 2 ^ 8 = mod_low f 8 b hb ∙ sym small in
    let one : n % 2 ^ (s + t) ≡ b % 2 ^ (s + t) = mod-from_low n b 8 (s + t) within agree in
    let least : n % 2 ^ s ≡ b % 2 ^ s = mod-from_low n b 8 s (omega arith) agree in
    let whole_n = shr_split n (s + t) in
    let whole_b = shr_split b (s + t) in
    omega (arith, one, least, whole_n, whole_b)

-- a byte with a run of bits replaced, inside the whole
pub number_of-set-deposit : (bytes : List ℕ) (k r t x : ℕ) → AreBytes bytes → k < length bytes → r + t ≤ 8
    → number_of (set bytes k (deposit (get_or bytes k 0) (8 - (r + t)) t x)) ≡ deposit (number_of bytes) (8 * length bytes - (8 * k + r + t)) t x
number_of-set-deposit bytes k r t x h hk within =
    let m = 8 * (length bytes - (k + 1)) in
    let s = 8 - (r + t) in
    let b = get_or bytes k 0 in
    let f = number_of (take k bytes) in
    let l = number_of (drop (k + 1) bytes) in
    let y = deposit b s t x in
    let place : m + s ≡ 8 * length bytes - (8 * k + r + t) = omega arith in
    let wrote = set bytes k y in
    let new : number_of wrote ≡ (f * 2 ^ 8 + y) * 2 ^ m + l =
    number_of_split wrote k (rw (length-set bytes k y) hk)
    ∙ ap (λ ys. (number_of ys * 2 ^ 8 + get_or wrote k 0) * 2 ^ (8 * (length wrote - (k + 1))) + number_of (drop (k + 1) wrote)) (take-set bytes k y)
    ∙ ap (λ v. (f * 2 ^ 8 + v) * 2 ^ (8 * (length wrote - (k + 1))) + number_of (drop (k + 1) wrote)) (get_or-set_same bytes k y 0 hk)
    ∙ ap (λ n. (f * 2 ^ 8 + y) * 2 ^ (8 * (n - (k + 1))) + number_of (drop (k + 1) wrote)) (length-set bytes k y)
    ∙ ap (λ ys. (f * 2 ^ 8 + y) * 2 ^ m + number_of ys) (drop-set-lt (k + 1) bytes k y (omega arith)) in
    let old : number_of bytes ≡ (f * 2 ^ 8 + b) * 2 ^ m + l = number_of_split bytes k hk in
    let inner : s + t ≤ 8 = omega arith in
    new
    ∙ sym (ap (λ n. n * 2 ^ m + l) (deposit_low f b s t x (h k) inner))
    ∙ sym (deposit-raised (f * 2 ^ 8 + b) m l s t x (number_of-drop-lt bytes (k + 1) h))
    ∙ ap (λ n. deposit n (m + s) t x) (sym old)
    ∙ ap (λ n. deposit (number_of bytes) n t x) place

-- no bits, and whole numbers of bits
pub bits_of_bytes_none : (bytes : List ℕ) (from : ℕ) → bits_of_bytes bytes from 0 ≡ 0
bits_of_bytes_none bytes from = omega arith

pub bits_of_bytes-lt : (bytes : List ℕ) (from len : ℕ) → bits_of_bytes bytes from len < 2 ^ len
bits_of_bytes-lt bytes from len = slice-lt (number_of bytes) (8 * length bytes - (from + len)) len

-- the place of a bit in its byte
place_in_byte : (at p low : ℕ) → at % 8 + p + low ≡ 8 → (8 - (at % 8 + p) ≡ low) × (at ≡ 8 * (at / 8) + at % 8) × (at % 8 + p ≤ 8)
place_in_byte at p low h = (omega arith, omega arith, omega arith)

-- a step that reads one byte
pub bits_of_bytes_more : (bytes : List ℕ) (from done p low : ℕ) → AreBytes bytes → 0 < p → (from + done) % 8 + p + low ≡ 8 → from + (done + p) ≤ 8 * length bytes
    → bits_of_bytes bytes from (done + p) ≡ bits_of_bytes bytes from done * 2 ^ p + slice (get_or bytes ((from + done) / 8) 0) low p
bits_of_bytes_more bytes from done p low h some place within =
    let at = from + done in
    let d = place_in_byte at p low place in
    let e0 = d.0 in
    let e1 = d.1 in
    let e2 = d.2 in
    let inside : at / 8 < length bytes = omega arith in
    bits_of_bytes-add bytes from done p within
    ∙ ap (λ n. bits_of_bytes bytes from done * 2 ^ p + bits_of_bytes bytes n p) e1
    ∙ ap (λ n. bits_of_bytes bytes from done * 2 ^ p + n) (bits_of_byte bytes (at / 8) (at % 8) p h inside e2)
    ∙ ap (λ n. bits_of_bytes bytes from done * 2 ^ p + slice (get_or bytes (at / 8) 0) n p) e0

-- a step that writes one byte; `left` bits are still to be written before it
pub deposited_more : (bytes old : List ℕ) (value from len left p low : ℕ) → AreBytes bytes → length bytes ≡ length old → value < 2 ^ len → left ≤ len → p ≤ left → 0 < p
    → (from + (len - left)) % 8 + p + low ≡ 8 → from + len ≤ 8 * length old
    → number_of bytes ≡ deposit (number_of old) (8 * length old - (from + (len - left))) (len - left) (value / 2 ^ left)
    → number_of (set bytes ((from + (len - left)) / 8) (deposit (get_or bytes ((from + (len - left)) / 8) 0) low p (slice value (left - p) p)))
    ≡ deposit (number_of old) (8 * length old - (from + (len - (left - p)))) (len - (left - p)) (value / 2 ^ (left - p))
deposited_more bytes old value from len left p low h same hv within some' some place inside was =
    let at = from + (len - left) in
    let d = place_in_byte at p low place in
    let e0 = d.0 in
    let e1 = d.1 in
    let e2 = d.2 in
    let n = number_of old in
    let k = at / 8 in
    let z = slice value (left - p) p in
    let hk : k < length bytes = omega arith in
    let low' = 8 * length old - (from + (len - (left - p))) in
    let one : set bytes k (deposit (get_or bytes k 0) low p z) ≡ set bytes k (deposit (get_or bytes k 0) (8 - (at % 8 + p)) p z) =
    ap (λ m. set bytes k (deposit (get_or bytes k 0) m p z)) (sym e0) in
    let place' : 8 * length bytes - (8 * k + at % 8 + p) ≡ low' = omega arith in
    let high : 8 * length old - at ≡ low' + p = omega arith in
    let count : len - left + p ≡ len - (left - p) = omega arith in
    let split : left ≡ left - p + p = omega arith in
    let small : value / 2 ^ left < 2 ^ (len - left) = high_part-lt value left len within hv in
    let tail : value / 2 ^ (left - p) ≡ value / 2 ^ left * 2 ^ p + z =
    sym (shr_split (value / 2 ^ (left - p)) p)
    ∙ ap (λ m. m * 2 ^ p + z) (shr-shr value (left - p) p ∙ ap (λ m. value / 2 ^ m) (sym split)) in
    ap number_of one
    ∙ number_of-set-deposit bytes k (at % 8) p z h hk e2
    ∙ ap (λ m. deposit (number_of bytes) m p z) place'
    ∙ ap (λ m. deposit m low' p z) (was ∙ ap (λ m. deposit n m (len - left) (value / 2 ^ left)) high)
    ∙ deposit-add n low' (len - left) p (value / 2 ^ left) z small (slice-lt value (left - p) p)
    ∙ ap (λ m. deposit n low' m (value / 2 ^ left * 2 ^ p + z)) count
    ∙ ap (λ m. deposit n low' (len - (left - p)) m) (sym tail)

-- what a step of a read adds, at the names of the code
pub read_more : (bytes : List ℕ) (from done len p low byte value bits : ℕ) → AreBytes bytes → byte ≡ (from + done) / 8 → (from + done) % 8 + p + low ≡ 8 → 0 < p → p ≤ len - done
    → from + len ≤ 8 * length bytes → len ≤ 128 → value ≡ bits_of_bytes bytes from done → bits ≡ slice (get_or bytes byte 0) low p
    → (value * 2 ^ p + bits ≡ bits_of_bytes bytes from (done + p)) × (value * 2 ^ p + bits < 2 ^ 128)
read_more bytes from done len p low byte value bits h at place some within inside short was read =
    let more = bits_of_bytes_more bytes from done p low h some place (omega arith) in
    let wrote : bits ≡ slice (get_or bytes ((from + done) / 8) 0) low p = read ∙ ap (λ k. slice (get_or bytes k 0) low p) at in
    let sum : value * 2 ^ p + bits ≡ bits_of_bytes bytes from (done + p) =
    ap (λ n. n * 2 ^ p + bits) was ∙ ap (λ n. bits_of_bytes bytes from done * 2 ^ p + n) wrote ∙ sym more in
    let total = bits_of_bytes-lt bytes from (done + p) in
    let room : done + p ≤ 128 = omega arith in
    let grown : 2 ^ (done + p) ≤ 2 ^ 128 = pow_mono room in
    (sum, omega arith)

-- what a step of a write leaves, at the names of the code
pub wrote_more : (bytes old : List ℕ) (value from len left p low byte was bits next : ℕ) → AreBytes bytes → length bytes ≡ length old → value < 2 ^ len → left ≤ len → p ≤ left → 0 < p
    → byte ≡ (from + (len - left)) / 8 → (from + (len - left)) % 8 + p + low ≡ 8 → from + len ≤ 8 * length old
    → number_of bytes ≡ deposit (number_of old) (8 * length old - (from + (len - left))) (len - left) (value / 2 ^ left)
    → was ≡ get_or bytes byte 0 → bits ≡ slice value (left - p) p → next ≡ deposit was low p bits
    → (number_of (set bytes byte next) ≡ deposit (number_of old) (8 * length old - (from + (len - (left - p)))) (len - (left - p)) (value / 2 ^ (left - p))) × (next < 2 ^ 8)
wrote_more bytes old value from len left p low byte was bits next h same hv within some' some at place inside before read cut put =
    let more = deposited_more bytes old value from len left p low h same hv within some' some place inside before in
    let here : was ≡ get_or bytes ((from + (len - left)) / 8) 0 = read ∙ ap (λ k. get_or bytes k 0) at in
    let into : next ≡ deposit (get_or bytes ((from + (len - left)) / 8) 0) low p (slice value (left - p) p) =
    put ∙ ap (λ n. deposit n low p bits) here ∙ ap (λ n. deposit (get_or bytes ((from + (len - left)) / 8) 0) low p n) cut in
    let small = deposit-lt (get_or bytes ((from + (len - left)) / 8) 0) low p (slice value (left - p) p) 8 (omega arith) (h ((from + (len - left)) / 8)) (slice-lt value (left - p) p) in
    (ap (λ k. number_of (set bytes k next)) at ∙ ap (λ n. number_of (set bytes ((from + (len - left)) / 8) n)) into ∙ more, rw into small)

bytes_of_front : (bytes : List ℕ) → AreBytes bytes → (n : ℕ) → n ≤ length bytes → bytes_of n (number_of (take n bytes)) ≡ take n bytes
bytes_of_front bytes h zero within = refl
bytes_of_front bytes h (suc n) within =
    let b = get_or bytes n 0 in
    let f = number_of (take n bytes) in
    let inside : n < length bytes = omega arith in
    let next : suc n ≡ n + 1 = omega arith in
    let grown : take (suc n) bytes ≡ take n bytes ++ b ∷ [] = ap (λ k. take k bytes) next ∙ take_more bytes n 0 inside in
    let whole : number_of (take (suc n) bytes) ≡ f * 2 ^ 8 + b = ap number_of grown ∙ number_of_push (take n bytes) b ∙ (let e : 256 * f + b ≡ f * 2 ^ 8 + b = omega arith in e) in
    let small : b < 2 ^ 8 = h n in
    let high : number_of (take (suc n) bytes) / 256 ≡ f = ap (λ k. k / 256) whole ∙ shr_high f 8 b small in
    let low : number_of (take (suc n) bytes) % 256 ≡ b = ap (λ k. k % 256) whole ∙ mod_low f 8 b small in
    ap (λ k. bytes_of n k ++ number_of (take (suc n) bytes) % 256 ∷ []) high
    ∙ ap (λ k. bytes_of n f ++ k ∷ []) low
    ∙ ap (λ (xs : List ℕ). xs ++ b ∷ []) (bytes_of_front bytes h n (omega arith))
    ∙ sym grown

-- bytes are spelled again from their number
pub bytes_of-number_of : (bytes : List ℕ) → AreBytes bytes → bytes_of (length bytes) (number_of bytes) ≡ bytes
bytes_of-number_of bytes h =
    let all : take (length bytes) bytes ≡ bytes = take_all (length bytes) bytes (omega arith) in
    ap (λ (xs : List ℕ). bytes_of (length bytes) (number_of xs)) (sym all) ∙ bytes_of_front bytes h (length bytes) (omega arith) ∙ all

-- a number is that of its bytes
pub length-bytes_of : (count n : ℕ) → length (bytes_of count n) ≡ count
length-bytes_of zero n = refl
length-bytes_of (suc count) n = length-append (bytes_of count (n / 256)) (n % 256 ∷ []) ∙ (let e = length-bytes_of count (n / 256) in omega (arith, e))

pub number_of-bytes_of : (count n : ℕ) → n < 2 ^ (8 * count) → number_of (bytes_of count n) ≡ n
number_of-bytes_of zero n lt = omega (arith, lt)
number_of-bytes_of (suc count) n lt =
    let more : 8 * suc count ≡ 8 * count + 8 = omega arith in
    let size : 2 ^ (8 * suc count) ≡ 2 ^ (8 * count) * 2 ^ 8 = ap (λ k. 2 ^ k) more ∙ pow-add 2 (8 * count) 8 in
    let less : n / 256 < 2 ^ (8 * count) = div_below n 256 (2 ^ (8 * count)) (omega arith) (omega (arith, lt, size)) in
    number_of_push (bytes_of count (n / 256)) (n % 256) ∙ ap (λ k. 256 * k + n % 256) (number_of-bytes_of count (n / 256) less) ∙ (let e : 256 * (n / 256) + n % 256 ≡ n = omega arith in e)

pub number_of-zeros : (n : ℕ) → number_of (replicate n 0) ≡ 0
number_of-zeros zero = refl
number_of-zeros (suc n) = number_of-zeros n

pub number_of-cleared : (bytes : List ℕ) (n : ℕ) → bytes ≡ replicate n 0 → number_of bytes ≡ 0
number_of-cleared bytes n e = ap number_of e ∙ number_of-zeros n

-- above the bytes no bit is set
pub bits-above : (bytes : List ℕ) (low len : ℕ) → AreBytes bytes → 8 * length bytes ≤ low → 0 ≡ slice (number_of bytes) low len
bits-above bytes low len are past =
    let lt = number_of-lt bytes are in
    let more : 2 ^ (8 * length bytes) ≤ 2 ^ low = pow_mono past in
    let none : number_of bytes / 2 ^ low ≡ 0 = div-eq_of_lt (let l : number_of bytes < 2 ^ low = omega (arith, lt, more) in l) in
    sym (ap (λ n. n % 2 ^ len) none ∙ mod-eq_of_lt (let l : 0 < 2 ^ len = pos len in l))
  where
    pos : (n : ℕ) → 0 < 2 ^ n
    pos n = let l = ones_lt n in omega (arith, l)
