-- The bytes of a number that std gives, the highest first, and the last of them.
use Rattle.std.proofs.Common.{◌≡◌, ℕ, zero, suc, ◌+◌, ◌-◌, ◌*◌, ◌/◌, ◌%◌, ◌^◌, ◌≤◌, List, [], ◌∷◌, ◌++◌, drop, length, take, refl, sym, ap, ◌∙◌, arith, Result, Ok, Err, cond}
use Rattle.std.specs.Prelude.{OnOk, is_ok}
use Rattle.std.specs.Int.{bytes_high_first, byte_at as byte_at_of}
use Rattle.std.proofs.lemmas.List.{drop-append-le, drop_all, take_all}
use Rattle.std.proofs.Math.Nat.{div-div-eq-div-mul, pow-succ'}
use Rattle.rmt_bits.specs.Bits.{bytes_of}
use Rattle.rmt_bits.proofs.ByteLaws.{length-bytes_of}

-- std's bytes of a number are the same
byte_up : (i x : ℕ) → byte_at_of (suc i) x ≡ byte_at_of i (x / 256)
byte_up zero x = refl
byte_up (suc i) x =
    let grown : 256 ^ suc (suc i) ≡ 256 * 256 ^ suc i = pow-succ' 256 (suc i) in
    ap (λ k. x / k % 256) grown ∙ ap (λ k. k % 256) (sym (div-div-eq-div-mul x 256 (256 ^ suc i)))

high_first-push : (n x : ℕ) → bytes_high_first (suc n) x ≡ bytes_high_first n (x / 256) ++ x % 256 ∷ []
high_first-push zero x = refl
high_first-push (suc n) x = rw (byte_up n x, high_first-push n x) refl

pub high_first : (n x : ℕ) → bytes_high_first n x ≡ bytes_of n x
high_first zero x = refl
high_first (suc n) x = high_first-push n x ∙ ap (λ (bytes : List ℕ). bytes ++ x % 256 ∷ []) (high_first n (x / 256))

-- the last bytes of a number
bytes-last : (front n k x : ℕ) → k ≡ n + front → drop front (bytes_of k x) ≡ bytes_of n x
bytes-last front zero k x all = drop_all front (bytes_of k x) (let l = length-bytes_of k x in omega (arith, l, all))
bytes-last front (suc n) zero x all = absurd (omega (arith, all))
bytes-last front (suc n) (suc k) x all =
    let less : k ≡ n + front = omega (arith, all) in
    drop-append-le front (bytes_of k (x / 256)) (x % 256 ∷ []) (let l = length-bytes_of k (x / 256) in omega (arith, l, less))
    ∙ ap (λ (bytes : List ℕ). bytes ++ x % 256 ∷ []) (bytes-last front n k (x / 256) less)

-- the lowest bytes of a number
pub last-of : (bytes : List ℕ) (count n : ℕ) → count ≤ 8 → bytes ≡ bytes_high_first 8 n → drop (8 - count) bytes ≡ bytes_of count n
last-of bytes count n few is =
    let front = 8 - count in
    let all : count + front ≡ 8 = omega (arith, few) in
    ap (drop front) (is ∙ high_first 8 n) ∙ bytes-last front count 8 n (sym all)

-- those that a call appends where it goes well
pub last-appended : {T E : Type 0} (r : Result T E) (new old bytes : List ℕ) (count n : ℕ) → count ≤ 8 → bytes ≡ bytes_high_first 8 n
    → new ≡ cond (is_ok r) (old ++ take (8 - (8 - count)) (drop (8 - count) bytes)) old → OnOk r (new ≡ old ++ bytes_of count n)
last-appended (Ok x) new old bytes count n few is e =
    let front = 8 - count in
    let last = last-of bytes count n few is in
    let long : length (bytes_of count n) ≤ 8 - front = let l = length-bytes_of count n in omega (arith, l, few) in
    e ∙ ap (λ (t : List ℕ). old ++ t) (ap (take (8 - front)) last ∙ take_all (8 - front) (bytes_of count n) long)
last-appended (Err x) new old bytes count n few is e = tt
