use Rattle.std.proofs.Common.{◌≡◌, ◌+◌, ◌*◌, ◌/◌, ◌%◌, ◌<◌, get_or, sym, ap, ◌∙◌, subst, arith, rules, w64, inl, inr}
use Rattle.std.specs.Int.{bit_at, trailing_zeros}
use Rattle.std.proofs.lemmas.Bool.{cases_lt}
use Rattle.std.proofs.lemmas.Nat.Bits.{bit_at-trailing_zeros, bit_at-zero}
use Rattle.rmt_memory.proofs.rows_left.first_bit.Goals as goal

pub returns-then-word-ne0 : goal.returns-then-word-ne0
returns-then-word-ne0 c =
    let words = c.args.words.now in
    let at = c.loop-at.at in
    let word = get_or words at 0 in
    let t = trailing_zeros w64 word in
    let lowest = bit_at-trailing_zeros w64 word (omega arith) (search rules) in
    let few : t < 64 = lowest.0 in
    let high : (64 * at + t) / 64 ≡ at = omega (arith, few) in
    let low : (64 * at + t) % 64 ≡ t = omega (arith, few) in (
      omega arith,
      omega (arith, few, c.loop-at-test.true),
      subst (λ k. bit_at (get_or words k 0) ((64 * at + t) % 64) ≡ 1) (sym high) (subst (λ k. bit_at word k ≡ 1) (sym low) lowest.1),
      λ j le lt on.
          elim (cases_lt j (64 * at)) as (λ _. ⊥) [
            | inl less ↦
                let zero = c.loop-at.invariant (j / 64) (omega (arith, less)) in
                let none : 0 ≡ 1 = sym (ap (λ w. bit_at w (j % 64)) zero ∙ bit_at-zero (j % 64)) ∙ on in
                omega (arith, none)
            | inr more ↦
                let here : j / 64 ≡ at = omega (arith, lt, few, more) in
                let early : j % 64 < t = omega (arith, lt, few, more) in
                let one : bit_at word (j % 64) ≡ 1 = subst (λ k. bit_at (get_or words k 0) (j % 64) ≡ 1) here on in
                let none = lowest.2 (j % 64) early in
                omega (arith, one, none)
          ],
    )
