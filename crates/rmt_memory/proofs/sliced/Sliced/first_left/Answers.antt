use Rattle.std.proofs.Common.{◌≡◌, ◌+◌, ◌*◌, ◌/◌, ◌%◌, ◌<◌, sym, ap, ◌∙◌, subst, arith, rules, w64, inl, inr}
use Rattle.std.specs.Int.{bit_at}
use Rattle.std.specs.Int.{trailing_zeros}
use Rattle.std.proofs.lemmas.Bool.{cases_lt}
use Rattle.std.proofs.lemmas.Nat.Bits.{bit_at-trailing_zeros, bit_at-zero}
use Rattle.rmt_memory.specs.Slicing.{IsOn}
use Rattle.rmt_memory.proofs.sliced.Sliced.first_left.Goals as goal

pub returns-then-left-ne0 : goal.returns-then-left-ne0
returns-then-left-ne0 c =
    let s = c.args.self.now in
    let vectors = c.args.vectors.now in
    let count = 10 * s.words in
    let at = c.loop-at.at in
    let word = c.left-left.result in
    let t = trailing_zeros w64 word in
    let lowest = bit_at-trailing_zeros w64 word (omega arith) (search rules) in
    let few : t < 64 = lowest.0 in
    let high : (64 * at + t) / 64 ≡ at = omega (arith, few) in
    let low : (64 * at + t) % 64 ≡ t = omega (arith, few) in
    let on : IsOn s c.args.sight vectors count at t = c.left-left.ensures.on t lowest.1 in (
      omega arith,
      omega (arith, few, c.loop-at-test.true),
      subst (λ k. IsOn s c.args.sight vectors count k ((64 * at + t) % 64)) (sym high) (subst (IsOn s c.args.sight vectors count at) (sym low) on),
      λ j le lt on.
          elim (cases_lt j (64 * at)) as (λ _. ⊥) [
            | inl less ↦ c.loop-at.invariant j less on
            | inr more ↦
                let here : j / 64 ≡ at = omega (arith, lt, few, more) in
                let early : j % 64 < t = omega (arith, lt, few, more) in
                let one = c.left-left.ensures.all (j % 64) (subst (λ k. IsOn s c.args.sight vectors count k (j % 64)) here on) in
                let none = lowest.2 (j % 64) early in
                omega (arith, one, none)
          ],
    )

pub first_in_runs-requires-clause-within : goal.first_in_runs-requires-clause-within
first_in_runs-requires-clause-within c = c.requires.within

pub left-left-requires-clause-within : goal.left-left-requires-clause-within
left-left-requires-clause-within c = c.requires.within

pub loop-at-init : goal.loop-at-init
loop-at-init c = λ r lt on. c.in_default.ensures r (omega arith) (omega (arith, lt)) on

pub loop-at-preserved : goal.loop-at-preserved
loop-at-preserved c = λ r lt on.
    let s = c.args.self.now in
    let at = c.loop-at.at in
    elim (cases_lt r (64 * at)) as (λ _. ⊥) [
      | inl less ↦ c.loop-at.invariant r less on
      | inr more ↦
          let here : r / 64 ≡ at = omega (arith, lt, more) in
          let one = c.left-left.ensures.all (r % 64) (subst (λ k. IsOn s c.args.sight c.args.vectors.now (10 * s.words) k (r % 64)) here on) in
          let none = ap (λ w. bit_at w (r % 64)) c.if-left-ne0.false ∙ bit_at-zero (r % 64) in
          omega (arith, one, none)
    ]

pub returns : goal.returns
returns c = λ j low lt on. c.loop-at.invariant j (omega (arith, lt)) on
