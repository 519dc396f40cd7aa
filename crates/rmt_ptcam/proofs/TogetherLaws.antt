-- Lookups of two states together, and words that are joined over them.
use Rattle.std.proofs.Common.{◌≡◌, ◌⊎◌, ◌&&◌, cond, eqb, leb, nat_lt, Bool, true, false, ℕ, zero, suc, ◌+◌, ◌-◌, ◌<◌, ◌≤◌, List, [], ◌∷◌, get_or, length, refl, sym, ap, subst, ◌∙◌, inl, inr, arith}
use Rattle.std.specs.Prelude.{◌||◌, All, Contains, bit_and, nat_le}
use Rattle.std.specs.List.{filter, list_all, range_with_len}
use Rattle.std.specs.Int.Bits.{and_zero_r}
use Rattle.std.proofs.lemmas.Bool.{cases_lt, cases_eq, eq-eqb, lt-ltb, le-ltb, le-leb, and_parts, and_from, or_left, or_right, leb-true, eqb-true}
use Rattle.std.proofs.lemmas.List.Elements.{All-contains, All-filter, All-head, All-tail, All-weaker, Contains-get_or}
use Rattle.std.proofs.lemmas.List.FromFn.{length-range_with_len, get_or-range_with_len}
use Rattle.rmt_bits.proofs.AllLaws.{All-range}
use Rattle.rmt_config.specs.Order.{rises_from}
use Rattle.rmt_ptcam.specs.Joining.{together}
use Rattle.rmt_ptcam.specs.Words.{byte_at, byte_of_both, both}
use Rattle.rmt_ptcam.proofs.TestLaws.{together_is}
use Rattle.rmt_ptcam.proofs.LookupLaws.{Agrees, Compares, compares_at, compares_by, agrees_all, agrees_at, agrees_from, byte_small, looked_at, test_at, test_from}
use Rattle.rmt_bits.proofs.OptionLaws.{same_Bool}
use Rattle.rmt_bits.proofs.MemberLaws.{Contains-filter, among-Contains}
use Rattle.rmt_bits.specs.Members.{is_among}

abbrev test : List ℕ → ℕ → List ℕ → ℕ → Bool
test here bytes there o = is_among here o || (nat_le bytes o && is_among there (o - bytes))

-- an offset that is looked up by either is looked up together
own_by : (here there : List ℕ) (bytes o : ℕ) → o < 128 → test here bytes there o ≡ true → Contains (together here bytes there) o
own_by here there bytes o lt passes =
    let long = length-range_with_len 0 128 in
    subst (λ (ls : List ℕ). Contains ls o) (sym (together_is here bytes there))
    (Contains-filter (test here bytes there) (range_with_len 0 128) o
    (o, omega (arith, long, lt), get_or-range_with_len 0 128 o o lt ∙ (let e : 0 + o ≡ o = omega arith in e)) passes)

pub own_here : (here there : List ℕ) (bytes : ℕ) → All (λ o. o < 128) here → All (Contains (together here bytes there)) here
own_here here there bytes low k d lt =
    let o : ℕ = get_or here k d in
    own_by here there bytes o (low k d lt)
    (or_left (is_among here o) (nat_le bytes o && is_among there (o - bytes)) (among-Contains here o (Contains-get_or here k d lt)))

pub own_there : (here there : List ℕ) (bytes o : ℕ) → o + bytes < 128 → Contains there o → Contains (together here bytes there) (o + bytes)
own_there here there bytes o low own =
    let back : o + bytes - bytes ≡ o = omega arith in
    own_by here there bytes (o + bytes) low
    (or_right (is_among here (o + bytes)) (nat_le bytes (o + bytes) && is_among there (o + bytes - bytes))
    (and_from (nat_le bytes (o + bytes)) (is_among there (o + bytes - bytes)) (le-leb bytes (o + bytes) (omega arith)) (ap (is_among there) back ∙ among-Contains there o own)))

-- ---- words of both

module _ (here : List ℕ) (bytes : ℕ) (there : List ℕ) where
  front_byte : (x y o : ℕ) → o < bytes → byte_of_both here bytes there x y o ≡ byte_at here x o
  front_byte x y o lt = ap (λ (b : Bool). cond b (byte_at here x o) (byte_at there y (o - bytes))) (lt-ltb o bytes lt)

  back_byte : (x y o : ℕ) → bytes ≤ o → byte_of_both here bytes there x y o ≡ byte_at there y (o - bytes)
  back_byte x y o le = ap (λ (b : Bool). cond b (byte_at here x o) (byte_at there y (o - bytes))) (le-ltb o bytes le)

  both_small : (x y o : ℕ) → byte_of_both here bytes there x y o < 256
  both_small x y o = elim (cases_lt o bytes) [
    | inl lt ↦ subst (λ n. n < 256) (sym (front_byte x y o lt)) (byte_small here x o)
    | inr le ↦ subst (λ n. n < 256) (sym (back_byte x y o le)) (byte_small there y (o - bytes))
  ]

-- two lists of up to four lookups, and what is compared over them; the first compares only bytes before the second
pub record AreJoined (here : List ℕ) (bytes : ℕ) (there : List ℕ) (m v n w : ℕ) : Type 0 where
  pub rises_here : rises_from 0 here ≡ true
  pub rises_there : rises_from 0 there ≡ true
  pub few_here : length here ≤ 4
  pub few_there : length there ≤ 4
  pub few : length (together here bytes there) ≤ 4
  pub low_here : All (λ o. o < 128) here
  pub low_there : All (λ o. o + bytes < 128) there
  pub first : Compares here m v
  pub second : Compares there n w
  pub before : All (λ o. (o < bytes) ⊎ (byte_at here m o ≡ 0)) here

module _ (here : List ℕ) (bytes : ℕ) (there : List ℕ) (m v n w : ℕ) (is : AreJoined here bytes there m v n w) where
  abbrev mask : ℕ → ℕ
  mask = byte_of_both here bytes there m n

  abbrev value : ℕ → ℕ
  value = byte_of_both here bytes there v w

  -- each of the value's bytes is within the mask's
  pub both_within : (o : ℕ) → bit_and (value o) (mask o) ≡ value o
  both_within o = elim (cases_lt o bytes) [
    | inl lt ↦
        ap (bit_and (value o)) (front_byte here bytes there m n o lt) ∙ ap (λ x. bit_and x (byte_at here m o)) (front_byte here bytes there v w o lt)
        ∙ compares_at 0 here m v is.rises_here is.few_here is.first o ∙ sym (front_byte here bytes there v w o lt)
    | inr le ↦
        ap (bit_and (value o)) (back_byte here bytes there m n o le) ∙ ap (λ x. bit_and x (byte_at there n (o - bytes))) (back_byte here bytes there v w o le)
        ∙ compares_at 0 there n w is.rises_there is.few_there is.second (o - bytes) ∙ sym (back_byte here bytes there v w o le)
  ]

  -- a mask and a value again
  pub both_compares : Compares (together here bytes there) (both here bytes there m n) (both here bytes there v w)
  both_compares = compares_by mask value (both_small here bytes there m n) (both_small here bytes there v w) both_within (together here bytes there) is.few

  module _ (read behind : ℕ → ℕ) (small : (o : ℕ) → read o < 256) (moved : (o : ℕ) → behind o ≡ read (o + bytes)) where
    abbrev to : List ℕ
    to = together here bytes there

    small_behind : (o : ℕ) → behind o < 256
    small_behind o = subst (λ x. x < 256) (sym (moved o)) (small (o + bytes))

    first_agrees : All (Agrees read mask value) to → All (Agrees read (byte_at here m) (byte_at here v)) here
    first_agrees each k d lt =
        let o : ℕ = get_or here k d in
        let own : Contains to o = own_here here there bytes is.low_here k d lt in
        let this : Agrees read mask value o = All-contains (Agrees read mask value) to o each own in
        elim (is.before k d lt) [
          | inl front ↦ ap (bit_and (read o)) (sym (front_byte here bytes there m n o front)) ∙ this ∙ front_byte here bytes there v w o front
          | inr none ↦
              let zero : byte_at here v o ≡ 0 = sym (compares_at 0 here m v is.rises_here is.few_here is.first o) ∙ ap (bit_and (byte_at here v o)) none ∙ and_zero_r (byte_at here v o) in
              ap (bit_and (read o)) none ∙ and_zero_r (read o) ∙ sym zero
        ]

    second_agrees : All (Agrees read mask value) to → All (Agrees behind (byte_at there n) (byte_at there w)) there
    second_agrees each k d lt =
        let o : ℕ = get_or there k d in
        let own : Contains to (o + bytes) = own_there here there bytes o (is.low_there k d lt) (Contains-get_or there k d lt) in
        let this : Agrees read mask value (o + bytes) = All-contains (Agrees read mask value) to (o + bytes) each own in
        let back : o + bytes - bytes ≡ o = omega arith in
        let far : bytes ≤ o + bytes = omega arith in
        ap (λ x. bit_and x (byte_at there n o)) (moved o) ∙ ap (λ x. bit_and (read (o + bytes)) (byte_at there n x)) (sym back)
        ∙ ap (bit_and (read (o + bytes))) (sym (back_byte here bytes there m n (o + bytes) far)) ∙ this ∙ back_byte here bytes there v w (o + bytes) far ∙ ap (byte_at there w) back

    both_agree : ((o : ℕ) → Agrees read (byte_at here m) (byte_at here v) o) → ((o : ℕ) → Agrees behind (byte_at there n) (byte_at there w) o) → (o : ℕ) → Agrees read mask value o
    both_agree one two o = elim (cases_lt o bytes) [
      | inl lt ↦ ap (bit_and (read o)) (front_byte here bytes there m n o lt) ∙ one o ∙ sym (front_byte here bytes there v w o lt)
      | inr le ↦
          let on : o - bytes + bytes ≡ o = omega (arith, le) in
          ap (bit_and (read o)) (back_byte here bytes there m n o le) ∙ ap (λ x. bit_and x (byte_at there n (o - bytes))) (ap read (sym on) ∙ sym (moved (o - bytes)))
          ∙ two (o - bytes) ∙ sym (back_byte here bytes there v w o le)
    ]

    -- a joined word agrees exactly where both parts do
    pub test_joined : eqb (bit_and (looked_at read to) (both here bytes there m n)) (both here bytes there v w)
        ≡ (eqb (bit_and (looked_at read here) m) v && eqb (bit_and (looked_at behind there) n) w)
    test_joined =
        let one : Bool = eqb (bit_and (looked_at read here) m) v in
        let two : Bool = eqb (bit_and (looked_at behind there) n) w in
        same_Bool (eqb (bit_and (looked_at read to) (both here bytes there m n)) (both here bytes there v w)) (one && two)
        (λ passes.
        let each : All (Agrees read mask value) to =
        agrees_at read mask value small (both_small here bytes there m n) (both_small here bytes there v w) to is.few (eqb-true (bit_and (looked_at read to) (both here bytes there m n)) (both here bytes there v w) passes) in
        and_from one two
        (test_from read small 0 here m v is.rises_here is.few_here is.first.mask is.first.value (first_agrees each))
        (test_from behind small_behind 0 there n w is.rises_there is.few_there is.second.mask is.second.value (second_agrees each)))
        (λ passes.
        let parts : (one ≡ true) × (two ≡ true) = and_parts one two passes in
        let each : (o : ℕ) → Agrees read mask value o =
        both_agree
        (agrees_all read here m v (test_at read small 0 here m v is.rises_here is.few_here is.first.mask is.first.value parts.0))
        (agrees_all behind there n w (test_at behind small_behind 0 there n w is.rises_there is.few_there is.second.mask is.second.value parts.1)) in
        eq-eqb (bit_and (looked_at read to) (both here bytes there m n)) (both here bytes there v w)
        (agrees_from read mask value small (both_small here bytes there m n) (both_small here bytes there v w) to is.few (λ k d lt. each (get_or to k d))))

-- ---- lookups that rise

-- rising offsets that pass, so many further on, are at most those of a range that pass
count_rising : (p : ℕ → Bool) (k s n a : ℕ) (ls : List ℕ) → s ≤ a + k → rises_from a ls ≡ true → All (λ x. x + k < s + n) ls → All (λ x. p (x + k) ≡ true) ls
    → length ls ≤ length (filter p (range_with_len s n))
count_rising p k s zero a [] from rises low pass = omega arith
count_rising p k s zero a (x ∷ xs) from rises low pass =
    let least : a ≤ x = leb-true a x (and_parts (leb a x) (rises_from (x + 1) xs) rises).0 in
    let under = All-head (λ y. y + k < s + 0) x xs low in
    absurd (omega (arith, from, least, under))
count_rising p k s (suc n) a [] from rises low pass = omega arith
count_rising p k s (suc n) a (x ∷ xs) from rises low pass =
    let parts : (leb a x ≡ true) × (rises_from (x + 1) xs ≡ true) = and_parts (leb a x) (rises_from (x + 1) xs) rises in
    let least : a ≤ x = leb-true a x parts.0 in
    let more : length (filter p (range_with_len (s + 1) n)) ≤ length (filter p (range_with_len s (suc n))) = longer (p s) in
    elim (cases_eq (x + k) s) [
      | inl same ↦
          let rest : length xs ≤ length (filter p (range_with_len (s + 1) n)) =
          count_rising p k (s + 1) n (x + 1) xs (omega (arith, same)) parts.1
          (All-weaker (λ y. y + k < s + suc n) (λ y. y + k < s + 1 + n) (λ y lt. omega (arith, lt)) xs (All-tail (λ y. y + k < s + suc n) x xs low)) (All-tail (λ y. p (y + k) ≡ true) x xs pass) in
          let here : p s ≡ true = subst (λ y. p y ≡ true) same (All-head (λ y. p (y + k) ≡ true) x xs pass) in
          let all : length (filter p (range_with_len s (suc n))) ≡ suc (length (filter p (range_with_len (s + 1) n))) =
          ap (λ (b : Bool). length (cond b (s ∷ filter p (range_with_len (s + 1) n)) (filter p (range_with_len (s + 1) n)))) here in
          omega (arith, rest, all)
      | inr other ↦
          let behind : s + 1 ≤ x + k = omega (arith, from, least, other) in
          let rest : length (x ∷ xs) ≤ length (filter p (range_with_len (s + 1) n)) =
          count_rising p k (s + 1) n x (x ∷ xs) behind (and_from (leb x x) (rises_from (x + 1) xs) (le-leb x x (omega arith)) parts.1)
          (All-weaker (λ y. y + k < s + suc n) (λ y. y + k < s + 1 + n) (λ y lt. omega (arith, lt)) (x ∷ xs) low) pass in
          omega (arith, rest, more)
    ]
  where
    longer : (b : Bool) → length (filter p (range_with_len (s + 1) n)) ≤ length (cond b (s ∷ filter p (range_with_len (s + 1) n)) (filter p (range_with_len (s + 1) n)))
    longer true = omega arith
    longer false = omega arith

module _ (here : List ℕ) (bytes : ℕ) (there : List ℕ) where
  pub few_here : rises_from 0 here ≡ true → All (λ o. o < 128) here → length (together here bytes there) ≤ 4 → length here ≤ 4
  few_here rises low few =
      let all : length here ≤ length (filter (test here bytes there) (range_with_len 0 128)) =
      count_rising (test here bytes there) 0 0 128 0 here (omega arith) rises (All-weaker (λ o. o < 128) (λ o. o + 0 < 0 + 128) (λ o lt. omega (arith, lt)) here low)
      (λ k d lt.
      let o : ℕ = get_or here k d in
      let same : o ≡ o + 0 = omega arith in
      subst (λ x. test here bytes there x ≡ true) same
      (or_left (is_among here o) (nat_le bytes o && is_among there (o - bytes)) (among-Contains here o (Contains-get_or here k d lt)))) in
      let same : length (together here bytes there) ≡ length (filter (test here bytes there) (range_with_len 0 128)) = ap (λ (ls : List ℕ). length ls) (together_is here bytes there) in
      omega (arith, all, few, same)

  pub few_there : rises_from 0 there ≡ true → All (λ o. o + bytes < 128) there → length (together here bytes there) ≤ 4 → length there ≤ 4
  few_there rises low few =
      let all : length there ≤ length (filter (test here bytes there) (range_with_len 0 128)) =
      count_rising (test here bytes there) bytes 0 128 0 there (omega arith) rises (All-weaker (λ o. o + bytes < 128) (λ o. o + bytes < 0 + 128) (λ o lt. omega (arith, lt)) there low)
      (λ k d lt.
      let o : ℕ = get_or there k d in
      let back : o + bytes - bytes ≡ o = omega arith in
      or_right (is_among here (o + bytes)) (nat_le bytes (o + bytes) && is_among there (o + bytes - bytes))
      (and_from (nat_le bytes (o + bytes)) (is_among there (o + bytes - bytes)) (le-leb bytes (o + bytes) (omega arith)) (ap (is_among there) back ∙ among-Contains there o (Contains-get_or there k d lt)))) in
      let same : length (together here bytes there) ≡ length (filter (test here bytes there) (range_with_len 0 128)) = ap (λ (ls : List ℕ). length ls) (together_is here bytes there) in
      omega (arith, all, few, same)

-- a filtered range rises, within its end
pub rises_filtered : (p : ℕ → Bool) (a n : ℕ) → rises_from a (filter p (range_with_len a n)) ≡ true
rises_filtered p a zero = refl
rises_filtered p a (suc n) = by (p a) (rises_filtered p (a + 1) n)
  where
    lower : (ls : List ℕ) → rises_from (a + 1) ls ≡ true → rises_from a ls ≡ true
    lower [] rises = refl
    lower (x ∷ xs) rises =
        let parts : (leb (a + 1) x ≡ true) × (rises_from (x + 1) xs ≡ true) = and_parts (leb (a + 1) x) (rises_from (x + 1) xs) rises in
        let least : a + 1 ≤ x = leb-true (a + 1) x parts.0 in
        and_from (leb a x) (rises_from (x + 1) xs) (le-leb a x (omega (arith, least))) parts.1

    by : (b : Bool) → rises_from (a + 1) (filter p (range_with_len (a + 1) n)) ≡ true → rises_from a (cond b (a ∷ filter p (range_with_len (a + 1) n)) (filter p (range_with_len (a + 1) n))) ≡ true
    by true rest = and_from (leb a a) (rises_from (a + 1) (filter p (range_with_len (a + 1) n))) (le-leb a a (omega arith)) rest
    by false rest = lower (filter p (range_with_len (a + 1) n)) rest

pub together_rises : (here there : List ℕ) (bytes : ℕ) → rises_from 0 (together here bytes there) ≡ true
together_rises here there bytes = ap (rises_from 0) (together_is here bytes there) ∙ rises_filtered (test here bytes there) 0 128

pub together_low : (here there : List ℕ) (bytes : ℕ) → All (λ o. o < 128) (together here bytes there)
together_low here there bytes =
    subst (All (λ o. o < 128)) (sym (together_is here bytes there))
    (All-filter (test here bytes there) (λ o. o < 128) (range_with_len 0 128) (All-range (λ o. o < 128) 0 128 (λ w lt. omega (arith, lt))))

pub list_all_below : (xs : List ℕ) → All (λ o. o < 128) xs → list_all (λ o. nat_lt o 128) xs ≡ true
list_all_below [] each = refl
list_all_below (x ∷ xs) each = and_from (nat_lt x 128) (list_all (λ o. nat_lt o 128) xs) (lt-ltb x 128 (All-head (λ o. o < 128) x xs each)) (list_all_below xs (All-tail (λ o. o < 128) x xs each))
