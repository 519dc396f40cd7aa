-- What digits are, what they say, and how a number's digits are written.
use Rattle.std.proofs.Common.{◌≡◌, ◌∙◌, ℕ, ◌+◌, ◌-◌, ◌*◌, ◌/◌, ◌%◌, ◌^◌, ◌<◌, ◌≤◌, ◌==◌, ◌&&◌, Bool, true, false, not, if◌then◌else◌, leb, List, [], ◌∷◌, ◌++◌, Option, Some, None, inl, inr, subst, length, get_or, drop, fold, refl, sym, ap, arith, add-one, drop-cons}
use Rattle.std.specs.Prelude.{SomeIff, nat_lt}
use Rattle.std.specs.Fmt.{decimal}
use Rattle.std.specs.List.{All, list_all}
use Rattle.std.proofs.Math.Nat.{mul-le-mul_left, mul-le-mul_right, mul_assoc, pow-succ'}
use Rattle.std.proofs.lemmas.Bool.{and_from, and_parts, cases_Bool, le-leb, leb-true, lt-leb, lt-ltb, ltb-true}
use Rattle.std.proofs.lemmas.Fmt.{decimal_by_steps}
use Rattle.std.proofs.lemmas.List.Folds.{list_all-append}
use Rattle.std.proofs.lemmas.List.Sums.{AllPass-from_list_all, fold-append}
use Rattle.std.proofs.lemmas.Option.{same_Some}
use Rattle.rmt_bits.specs.Digits.{appended, below, digit_value, is_digit, number_in, number_of_digits}

-- ---- one digit

-- a decimal digit is one of ten bytes
pub record IsDigit (b : ℕ) : Type 0 where
  pub low : 48 ≤ b
  pub high : b ≤ 57

pub IsDigit-from : (b : ℕ) → is_digit b ≡ true → IsDigit b
IsDigit-from b e =
    let both = and_parts (leb 48 b) (leb b 57) e in
    record { low = leb-true 48 b both.0; high = leb-true b 57 both.1 }

pub IsDigit-at : (ds : List ℕ) → list_all is_digit ds ≡ true → All IsDigit ds
IsDigit-at ds all k d lt = IsDigit-from (get_or ds k d) (AllPass-from_list_all is_digit ds all k d lt)

pub is_digit-shown : (d : ℕ) → d < 10 → is_digit (48 + d) ≡ true
is_digit-shown d lt = and_from (leb 48 (48 + d)) (leb (48 + d) 57) (le-leb 48 (48 + d) (omega arith)) (le-leb (48 + d) 57 (omega arith))

pub digit_value-shown : (d : ℕ) → d < 10 → digit_value (48 + d) ≡ d
digit_value-shown d lt = rw (lt-leb 97 (48 + d) (omega arith), lt-leb 65 (48 + d) (omega arith)) (omega arith)

pub digit_value-decimal : (b : ℕ) → is_digit b ≡ true → digit_value b ≡ b - 48
digit_value-decimal b e =
    let is = IsDigit-from b e in
    rw (lt-leb 97 b (omega (arith, is.high)), lt-leb 65 b (omega (arith, is.high))) refl

-- ---- the number of digits, one digit after another

once : (base v d : ℕ) → 0 < base → v ≤ v * base + d
once base v d h = omega (arith, mul-le-mul_left v h)

-- a number only grows while its digits are read
pub appended-grows : (base v : ℕ) (ds : List ℕ) → 0 < base → v ≤ fold (appended base) v ds
appended-grows base v [] h = omega arith
appended-grows base v (d ∷ ds) h = omega (arith, mul-le-mul_left v h, appended-grows base (appended base v d) ds h)

pub appended-next : (base v i : ℕ) (ds : List ℕ) → i < length ds → fold (appended base) v (drop i ds) ≡ fold (appended base) (appended base v (get_or ds i 0)) (drop (i + 1) ds)
appended-next base v i ds h = rw (add-one, drop-cons ds i 0)

-- so one that passes a limit stays behind it
pub appended-too_great : (base v i limit : ℕ) (ds : List ℕ) → 0 < base → i < length ds → limit < appended base v (get_or ds i 0) → limit < fold (appended base) v (drop i ds)
appended-too_great base v i limit ds h lt over =
    rw (appended-next base v i ds lt) (omega (arith, over, appended-grows base (appended base v (get_or ds i 0)) (drop (i + 1) ds) h))

-- ---- decimal digits

-- so many decimal digits say a number below the power of ten
below_power : (v : ℕ) (ds : List ℕ) → list_all is_digit ds ≡ true → fold (appended 10) v ds < (v + 1) * 10 ^ length ds
below_power v [] all = omega arith
below_power v (d ∷ ds) all =
    let both = and_parts (is_digit d) (list_all is_digit ds) all in
    let is = IsDigit-from d both.0 in
    let value = digit_value-decimal d both.0 in
    let most : v * 10 + digit_value d + 1 ≤ (v + 1) * 10 = omega (arith, is.high, is.low, value) in
    let later = below_power (v * 10 + digit_value d) ds both.1 in
    let room = mul-le-mul_right (10 ^ length ds) most in
    let more : (v + 1) * 10 * 10 ^ length ds ≡ (v + 1) * 10 ^ length (d ∷ ds) = mul_assoc (v + 1) 10 (10 ^ length ds) ∙ ap (λ n. (v + 1) * n) (sym (pow-succ' 10 (length ds))) in
    omega (arith, later, room, more)

pub number_of_digits-lt : (ds : List ℕ) → list_all is_digit ds ≡ true → number_of_digits 10 ds < 10 ^ length ds
number_of_digits-lt ds all = omega (arith, below_power 0 ds all)

-- digits that say a number: at least one, and nothing else
pub record Says (n : ℕ) (ds : List ℕ) : Type 0 where
  pub first : ℕ
  pub rest : List ℕ
  pub is : ds ≡ first ∷ rest
  pub digits : list_all is_digit ds ≡ true
  pub number : number_of_digits 10 ds ≡ n

-- the first of them is a decimal digit
pub Says-first : (n : ℕ) (ds : List ℕ) (s : Says n ds) → IsDigit s.first
Says-first n ds s = IsDigit-from s.first (and_parts (is_digit s.first) (list_all is_digit s.rest) (ap (list_all is_digit) (sym s.is) ∙ s.digits)).0

all_one : (d : ℕ) → d < 10 → list_all is_digit ((48 + d) ∷ []) ≡ true
all_one d lt = and_from (is_digit (48 + d)) true (is_digit-shown d lt) refl

one_digit : (n : ℕ) → n < 10 → Says n ((48 + n) ∷ [])
one_digit n lt = record { first = 48 + n; rest = []; is = refl; digits = all_one n lt; number = omega (arith, digit_value-shown n lt) }

more_digits : (n : ℕ) (ds : List ℕ) → 10 ≤ n → Says (n / 10) ds → Says n (ds ++ (48 + n % 10) ∷ [])
more_digits n ds ge s =
    let last = (48 + n % 10) ∷ [] in
    record {
      first = s.first;
      rest = s.rest ++ last;
      is = ap (λ l. l ++ last) s.is;
      digits = list_all-append is_digit ds last ∙ and_from (list_all is_digit ds) (list_all is_digit last) s.digits (all_one (n % 10) (omega arith));
      number = omega (arith, fold-append (appended 10) 0 ds last, s.number, digit_value-shown (n % 10) (omega arith));
    }

-- a number's decimal digits say it
pub Says-decimal : (n : ℕ) → n < 2 ^ 64 → Says n (decimal n)
Says-decimal n lt = decimal_by_steps Says one_digit more_digits n lt

-- ---- numbers that are told where they are below a limit

pub below_limit : (limit : ℕ) (o : Option ℕ) (n : ℕ) → below limit o ≡ Some n → n < limit
below_limit limit None n e = cc
below_limit limit (Some m) n e = by (nat_lt m limit) refl e
  where
    by : (b : Bool) → nat_lt m limit ≡ b → (if b then Some m else None) ≡ Some n → n < limit
    by true t h = subst (λ (k : ℕ). k < limit) (same_Some m n h) (ltb-true m limit t)
    by false t h = cc

-- a number that is told exactly where it is at most the last one
pub some_below : (o : Option ℕ) (last n : ℕ) → SomeIff o (n ≤ last) n → o ≡ below (last + 1) (Some n)
some_below None last n h = elim (cases_Bool (nat_lt n (last + 1))) [ inl e ↦ absurd (h (omega (arith, ltb-true n (last + 1) e))) | inr e ↦ rw e refl ]
some_below (Some x) last n h = rw (lt-ltb n (last + 1) (omega (arith, h.0))) (ap Some h.1)

pub number_below : (base last : ℕ) (is_one : ℕ → Bool) (digits : List ℕ) (o : Option ℕ) (b : Bool) → SomeIff o (number_of_digits base digits ≤ last) (number_of_digits base digits)
    → b ≡ (not (length digits == 0) && list_all is_one digits) → b ≡ true → o ≡ below (last + 1) (number_in base is_one digits)
number_below base last is_one digits o b h e t = rw (← e, t) (some_below o last (number_of_digits base digits) h)

pub number_none : (base limit : ℕ) (is_one : ℕ → Bool) (digits : List ℕ) (b : Bool) → b ≡ (not (length digits == 0) && list_all is_one digits) → b ≡ false → None ≡ below limit (number_in base is_one digits)
number_none base limit is_one digits b e f = rw (← e, f) refl
