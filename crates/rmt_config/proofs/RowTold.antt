-- The steps of the look over a row, entry by entry.
use Rattle.std.proofs.Common.{◌≡◌, ◌≢◌, ℕ, ◌+◌, ◌-◌, ◌*◌, ◌/◌, ◌<◌, ◌≤◌, Bool, true, false, max, min, sym, ap, ◌∙◌, subst, arith, inl, inr}
use Rattle.std.specs.Prelude.{IsTrue, ◌⊎◌}
use Rattle.std.specs.Int.{bit_at}
use Rattle.std.proofs.lemmas.Nat.{div-mul-add}
use Rattle.std.proofs.lemmas.Bool.{cases_lt, both_ways}
use Rattle.rmt_bits.specs.Bits.{slice}
use Rattle.rmt_config.proofs.UnitBits.{bit-zero, slice-zero, slice-zero_bit, one_is_not_zero}

-- the entry that a bit stands in
entry_at_bit : (n low position entry : ℕ) → low ≡ position * entry → low ≤ n → n < low + entry → n / entry ≡ position
entry_at_bit n low position entry at le lt =
    let e : n ≡ position * entry + (n - low) = omega arith in
    ap (λ k. k / entry) e ∙ div-mul-add position entry (n - low) (omega arith)

pub told-more : (tell : ℕ → Bool) (x entry bits start low position mx mn : ℕ) → low ≡ position * entry
    → mx ≡ max low start → mn ≡ min (low + entry) (start + bits)
    → (slice x (mx - start) (mn - start - (mx - start)) ≡ 0) ⊎ (tell position ≡ true)
    → ((t : ℕ) → t < bits → start + t < low → bit_at x t ≡ 1 → IsTrue (tell ((start + t) / entry)))
    → (t : ℕ) → t < bits → start + t < low + entry → bit_at x t ≡ 1 → IsTrue (tell ((start + t) / entry))
told-more tell x entry bits start low position mx mn at emx emn now before t lt within one =
    elim (cases_lt (start + t) low) as (λ _. IsTrue (tell ((start + t) / entry))) [
      | inl earlier ↦ before t lt earlier one
      | inr here ↦ subst (λ p. IsTrue (tell p)) (sym (entry_at_bit (start + t) low position entry at here within)) (told here now)
    ]
  where
    told : low ≤ start + t → (slice x (mx - start) (mn - start - (mx - start)) ≡ 0) ⊎ (tell position ≡ true) → IsTrue (tell position)
    told here (inr stands) = stands
    told here (inl zero) =
        let from = mx - start in
        let split : from + (t - from) ≡ t = omega arith in
        let small : t - from < mn - start - from = omega arith in
        absurd (one_is_not_zero (bit_at x t) (ap (bit_at x) (sym split) ∙ slice-zero_bit x from (mn - start - from) (t - from) zero small) one)

pub told-broken : (tell : ℕ → Bool) (x entry bits start low position mx mn : ℕ) → low ≡ position * entry
    → mx ≡ max low start → mn ≡ min (low + entry) (start + bits)
    → slice x (mx - start) (mn - start - (mx - start)) ≢ 0 → tell position ≡ false
    → ((t : ℕ) → t < bits → bit_at x t ≡ 1 → IsTrue (tell ((start + t) / entry))) → ⊥
told-broken tell x entry bits start low position mx mn at emx emn some never all =
    let from = mx - start in
    let len = mn - start - from in
    some (slice-zero x from len (λ i lt. bit-zero x (from + i) (λ one.
    let here : low ≤ start + (from + i) = omega arith in
    let there : start + (from + i) < low + entry = omega arith in
    both_ways (tell position) never
    (subst (λ p. IsTrue (tell p)) (entry_at_bit (start + (from + i)) low position entry at here there) (all (from + i) (omega arith) one)))))
