-- Numbers that agree on runs of bits, and values that are written into runs apart from each other.
use Rattle.std.proofs.Common.{◌≡◌, ◌⊎◌, ℕ, suc, ◌+◌, ◌-◌, ◌^◌, ◌<◌, ◌≤◌, List, [], ◌∷◌, fold, refl, sym, ap, ◌∙◌, inl, inr, arith}
use Rattle.std.specs.Prelude.{All, AllPairs, Contains, bit_and}
use Rattle.std.specs.List.{AllZip, zip}
use Rattle.std.specs.Int.{bit_at}
use Rattle.std.proofs.lemmas.Bool.{cases_lt}
use Rattle.std.proofs.lemmas.Nat.Bits.{bit_at_and, same_from_bits}
use Rattle.std.proofs.lemmas.List.Elements.{All-nil, All-cons, All-head, All-tail}
use Rattle.rmt_bits.specs.Bits.{slice, deposit}
use Rattle.rmt_bits.proofs.BitLaws.{slice-deposit_same, slice-deposit_above, slice-deposit_below}
use Rattle.rmt_config.proofs.UnitBits.{slice-bit}

-- ---- runs of bits

-- numbers that agree on a run agree on its bits
pub bit_from_slice : (v w low len i : ℕ) → slice v low len ≡ slice w low len → low ≤ i → i < low + len → bit_at v i ≡ bit_at w i
bit_from_slice v w low len i same from lt =
    let at : low + (i - low) ≡ i = omega arith in
    let inside : i - low < len = omega arith in
    let by : (n : ℕ) → bit_at n i ≡ bit_at (slice n low len) (i - low) = λ n. ap (bit_at n) (sym at) ∙ sym (slice-bit n low len (i - low) inside) in
    by v ∙ ap (λ n. bit_at n (i - low)) same ∙ sym (by w)

-- ---- runs of some fields

module _ (low wid : ℕ → ℕ) where
  -- a number with values written into the runs of fields
  abbrev pub filled : ℕ → List ℕ → List ℕ → ℕ
  filled n fs xs = fold (λ n (x : ℕ × ℕ). deposit n (low x.0) (wid x.0) x.1) n (zip fs xs)

  -- a run apart from that of a field
  abbrev pub IsOutside : ℕ → ℕ → ℕ → Type 0
  IsOutside at size f = (at + size ≤ low f) ⊎ (low f + wid f ≤ at)

  -- the runs of fields that stand apart
  abbrev pub AreRuns : List ℕ → Type 0
  AreRuns fs = AllPairs (λ f g. IsOutside (low f) (wid f) g) fs

  -- values that fit their fields
  abbrev pub AllFit : List ℕ → List ℕ → Type 0
  AllFit fs xs = AllZip (λ f x. x < 2 ^ wid f) fs xs

  first_apart : (f : ℕ) (fs : List ℕ) → AreRuns (f ∷ fs) → All (IsOutside (low f) (wid f)) fs
  first_apart f fs apart k d lt = apart 0 (suc k) d (omega arith) (omega (arith, lt))

  rest_apart : (f : ℕ) (fs : List ℕ) → AreRuns (f ∷ fs) → AreRuns fs
  rest_apart f fs apart i j d lt below = apart (suc i) (suc j) d (omega (arith, lt)) (omega (arith, below))

  one_kept : (n at size f x : ℕ) → x < 2 ^ wid f → IsOutside at size f → slice (deposit n (low f) (wid f) x) at size ≡ slice n at size
  one_kept n at size f x fits out = elim out [
    | inl below ↦ slice-deposit_below n (low f) (wid f) x at size fits below
    | inr above ↦ slice-deposit_above n (low f) (wid f) x at size fits above
  ]

  -- a run apart from those of all fields is kept
  pub filled_keeps : (n at size : ℕ) (fs xs : List ℕ) → AllFit fs xs → All (IsOutside at size) fs → slice (filled n fs xs) at size ≡ slice n at size
  filled_keeps n at size [] xs fits out = refl
  filled_keeps n at size (f ∷ fs) [] fits out = refl
  filled_keeps n at size (f ∷ fs) (x ∷ xs) fits out =
      filled_keeps (deposit n (low f) (wid f) x) at size fs xs fits.1 (All-tail (IsOutside at size) f fs out)
      ∙ one_kept n at size f x fits.0 (All-head (IsOutside at size) f fs out)

  -- each field's value is read back
  pub filled_reads : (n : ℕ) (fs xs : List ℕ) → AllFit fs xs → AreRuns fs → AllZip (λ f x. slice (filled n fs xs) (low f) (wid f) ≡ x) fs xs
  filled_reads n [] [] fits apart = tt
  filled_reads n [] (x ∷ xs) fits apart = absurd fits
  filled_reads n (f ∷ fs) [] fits apart = absurd fits
  filled_reads n (f ∷ fs) (x ∷ xs) fits apart = (
    filled_keeps (deposit n (low f) (wid f) x) (low f) (wid f) fs xs fits.1 (first_apart f fs apart) ∙ slice-deposit_same n (low f) (wid f) x fits.0,
    filled_reads (deposit n (low f) (wid f) x) fs xs fits.1 (rest_apart f fs apart),
  )

  -- a field of a list that has a bit
  pub record HasBit (fs : List ℕ) (i f : ℕ) : Type 0 where
    pub own : Contains fs f
    pub from : low f ≤ i
    pub below : i < low f + wid f

  bit_later : (g : ℕ) (fs : List ℕ) (i : ℕ) → ((f : ℕ) × HasBit fs i f) → (f : ℕ) × HasBit (g ∷ fs) i f
  bit_later g fs i h = (h.0, record { own = (suc h.1.own.0, omega (arith, h.1.own.1), h.1.own.2); from = h.1.from; below = h.1.below })

  -- a bit is one of a field's, or one of no field
  pub bit_cases : (fs : List ℕ) (i : ℕ) → ((f : ℕ) × HasBit fs i f) ⊎ All (IsOutside i 1) fs
  bit_cases [] i = inr (All-nil (IsOutside i 1))
  bit_cases (f ∷ fs) i = elim (bit_cases fs i) [
    | inl h ↦ inl (bit_later f fs i h)
    | inr out ↦ elim (cases_lt i (low f)) [
      | inl under ↦ inr (All-cons (IsOutside i 1) f fs (inl (omega (arith, under))) out)
      | inr from ↦ elim (cases_lt i (low f + wid f)) [
        | inl below ↦ inl (f, record { own = (0, omega arith, refl); from = from; below = below })
        | inr above ↦ inr (All-cons (IsOutside i 1) f fs (inr above) out)
      ]
    ]
  ]

  -- a bit of no field is 0 where values are written into 0
  pub filled_none : (fs xs : List ℕ) (i : ℕ) → AllFit fs xs → All (IsOutside i 1) fs → bit_at (filled 0 fs xs) i ≡ 0
  filled_none fs xs i fits out = filled_keeps 0 i 1 fs xs fits out ∙ (let e : slice 0 i 1 ≡ 0 = no_bits i in e)
    where
      no_bits : (i : ℕ) → slice 0 i 1 ≡ 0
      no_bits i = omega arith

  -- two numbers, of which one has all bits of the fields that another one has on a mask
  pub same_on_runs : (n : ℕ) (fs masks values : List ℕ) → AllFit fs masks → AllFit fs values
      → ((i f : ℕ) → HasBit fs i f → bit_at (bit_and n (filled 0 fs masks)) i ≡ bit_at (filled 0 fs values) i) → bit_and n (filled 0 fs masks) ≡ filled 0 fs values
  same_on_runs n fs masks values fit_masks fit_values each = same_from_bits (bit_and n (filled 0 fs masks)) (filled 0 fs values) (λ i. elim (bit_cases fs i) [
    | inl h ↦ each i h.0 h.1
    | inr out ↦
        let mask = filled_none fs masks i fit_masks out in
        let value = filled_none fs values i fit_values out in
        let both = bit_at_and n (filled 0 fs masks) i in
        omega (arith, mask, value, both)
  ])
