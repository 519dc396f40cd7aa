use Rattle.std.proofs.Common.{◌≡◌, ◌+◌, ◌-◌, ◌*◌, ◌/◌, ◌%◌, ◌<◌, ℕ, sym, subst, arith, inl, inr}
use Rattle.std.proofs.lemmas.Bool.{cases_lt}
use Rattle.rmt_memory.specs.Slicing.{IsOn}
use Rattle.rmt_memory.proofs.sliced.Sliced.first_in_runs.Goals as goal

pub returns-in-Some : goal.returns-in-Some
returns-in-Some c =
    let s = c.args.self.now in
    let vectors = c.args.vectors.now in
    let count = 10 * s.words in
    let run = c.loop-run.run in
    let row = c.in-Some.row in
    let first = c.in-Some.ensures in
    let few : row < 512 = first.1 in
    let high : (512 * run + row) / 64 ≡ 8 * run + row / 64 = omega arith in
    let low : (512 * run + row) % 64 ≡ row % 64 = omega arith in
    let on : IsOn s c.args.sight vectors count (8 * run + row / 64) (row % 64) = c.left_of_eight-left.ensures.on (row / 64) (row % 64) (omega (arith, few)) first.2 in (
      omega arith,
      omega (arith, few, c.loop-run-test.true),
      subst (λ k. IsOn s c.args.sight vectors count k ((512 * run + row) % 64)) (sym high) (subst (IsOn s c.args.sight vectors count (8 * run + row / 64)) (sym low) on),
      λ j le lt on.
          elim (cases_lt j (512 * run)) as (λ _. ⊥) [
            | inl less ↦ c.loop-run.invariant j less on
            | inr more ↦
                let i : ℕ = j - 512 * run in
                let high' : j / 64 ≡ 8 * run + i / 64 = omega (arith, more) in
                let low' : j % 64 ≡ i % 64 = omega (arith, more) in
                let early : i < row = omega (arith, lt, more) in
                let here : IsOn s c.args.sight vectors count (8 * run + i / 64) (i % 64) =
                subst (λ k. IsOn s c.args.sight vectors count k (i % 64)) high' (subst (IsOn s c.args.sight vectors count (j / 64)) low' on) in
                first.3 i (omega arith) early (c.left_of_eight-left.ensures.all (i / 64) (i % 64) (omega (arith, early, few)) here)
          ],
    )

pub loop-run-preserved : goal.loop-run-preserved
loop-run-preserved c = λ r lt on.
    let s = c.args.self.now in
    let vectors = c.args.vectors.now in
    let count = 10 * s.words in
    let run = c.loop-run.run in
    elim (cases_lt r (512 * run)) as (λ _. ⊥) [
      | inl less ↦ c.loop-run.invariant r less on
      | inr more ↦
          let i : ℕ = r - 512 * run in
          let high : r / 64 ≡ 8 * run + i / 64 = omega (arith, more) in
          let low : r % 64 ≡ i % 64 = omega (arith, more) in
          let inside : i < 512 = omega (arith, lt, more) in
          let here : IsOn s c.args.sight vectors count (8 * run + i / 64) (i % 64) =
          subst (λ k. IsOn s c.args.sight vectors count k (i % 64)) high (subst (IsOn s c.args.sight vectors count (r / 64)) low on) in
          c.in_default.ensures i (omega arith) inside (c.left_of_eight-left.ensures.all (i / 64) (i % 64) (omega (arith, inside)) here)
    ]
