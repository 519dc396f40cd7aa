use Rattle.std.proofs.Common.{◌≡◌, ℕ, ◌+◌, ◌-◌, ◌*◌, ◌/◌, ◌%◌, ◌^◌, ◌≤◌, ap, ◌∙◌, subst, arith}
use Rattle.std.proofs.lemmas.Nat.{shr-shr, one_shl}
use Rattle.rmt_pack.specs.Tcam.{Holds}
use Rattle.rmt_pack.proofs.TcamLaws.{add-step, add-whole}
use Rattle.rmt_pack.proofs.tcam.Bits.add.Goals as goal

-- what is left of the value behind so many bits more
shift : (value above before len done : ℕ) → before + len ≡ done → above ≡ value / 2 ^ before → above / 2 ^ len ≡ value / 2 ^ done
shift value above before len done is above_is = ap (λ (n : ℕ). n / 2 ^ len) above_is ∙ (shr-shr value before len ∙ ap (λ (k : ℕ). value / 2 ^ k) is)

pub loop-left-preserved : goal.loop-left-preserved
loop-left-preserved c =
    let l = c.loop-left in
    let len = c.min-len.result in
    let value = c.args.value in
    let small : len ≤ l.left = omega (arith, c.min-len.ensures) in
    record {
      left = omega (arith, l.invariant.left);
      above = λ done is.
          (let at : done - len + len ≡ done = omega (arith, l.invariant.left) in
          let was : done - len + l.left ≡ c.args.bits = omega (arith, l.invariant.left) in
          shift value l.above (done - len) len done at (l.invariant.above (done - len) was));
      rest = c.in_ok-add_piece.ensures.rest;
      filled = c.in_ok-add_piece.ensures.filled;
      holds = λ done n count is holds.
          (let at : done - len + len ≡ done = omega (arith, l.invariant.left) in
          let was : done - len + l.left ≡ c.args.bits = omega (arith, l.invariant.left) in
          let next = c.in_ok-add_piece.ensures.holds (value % 2 ^ (done - len) * 2 ^ count + n) (count + (done - len)) (l.invariant.holds (done - len) n count was holds) in
          subst (λ (k : ℕ). Holds c.add_piece.new.self (value % 2 ^ k * 2 ^ count + n) (count + k)) at
          (add-step c.add_piece.new.self value l.above (done - len) len n count (l.invariant.above (done - len) was)
          (subst (λ (m : ℕ). Holds c.add_piece.new.self (l.above % m * 2 ^ (count + (done - len)) + (value % 2 ^ (done - len) * 2 ^ count + n)) (count + (done - len) + len))
          (one_shl len 128 (omega (arith, c.min-len.ensures))) next)));
    }

pub returns-clause-holds : goal.returns-clause-holds
returns-clause-holds c = λ n count holds.
    let l = c.loop-left in
    let all : c.args.bits + l.left ≡ c.args.bits = omega arith in
    add-whole l.self c.args.value c.args.bits n count c.requires.value (l.invariant.holds c.args.bits n count all holds)
