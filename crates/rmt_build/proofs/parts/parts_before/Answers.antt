use Rattle.std.proofs.Common.{◌≡◌, ℕ, ◌<◌, ◌≤◌, ap, cond, arith}
use Rattle.std.specs.Prelude.{nat_lt}
use Rattle.std.proofs.lemmas.Bool.{le-ltb, lt-ltb}
use Rattle.rmt_pack.specs.Placements.{quanta_in}
use Rattle.rmt_build.proofs.PartLaws.{parts_more}
use Rattle.rmt_build.proofs.parts.parts_before.Goals as goal
use Rattle.rmt_build.proofs.parts.parts_before.Goals.{then-quanta_in-gt0, else-quanta_in-gt0}

pub loop-earlier-preserved : goal.loop-earlier-preserved
loop-earlier-preserved c =
    let parts = c.args.parts.now in
    let n = c.args.node in
    let k = c.loop-earlier.earlier in
    let more = parts_more parts n k in
    elim c.if-quanta_in-gt0.branch [
      | then-quanta_in-gt0 w ↦
          let some : 0 < quanta_in parts n k = omega (arith, w.if-quanta_in-gt0.true, c.quanta_in.ensures) in
          let one : cond {A = ℕ} (nat_lt 0 (quanta_in parts n k)) 1 0 ≡ 1 = ap (λ b. cond {A = ℕ} b 1 0) (lt-ltb 0 (quanta_in parts n k) some) in
          record {
            value = omega (arith, more, one, w.count-is, c.loop-earlier.invariant.value);
            few = omega (arith, w.count-is, c.loop-earlier.invariant.few);
          }
      | else-quanta_in-gt0 w ↦
          let none : quanta_in parts n k ≤ 0 = omega (arith, w.if-quanta_in-gt0.false, c.quanta_in.ensures) in
          let zero : cond {A = ℕ} (nat_lt 0 (quanta_in parts n k)) 1 0 ≡ 0 = ap (λ b. cond {A = ℕ} b 1 0) (le-ltb 0 (quanta_in parts n k) none) in
          record {
            value = omega (arith, more, zero, w.count-is, c.loop-earlier.invariant.value);
            few = omega (arith, w.count-is, c.loop-earlier.invariant.few);
          }
    ]
