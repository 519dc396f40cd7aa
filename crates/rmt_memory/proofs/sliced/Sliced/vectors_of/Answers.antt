use Rattle.std.proofs.Common.{◌≡◌, ◌≢◌, ℕ, ◌+◌, ◌*◌, ◌<◌, ◌≤◌, length, ap, ◌∙◌, arith, below_more, get_or-set_other, get_or-set_same}
use Rattle.std.proofs.lemmas.List.{length-set}
use Rattle.std.proofs.lemmas.Nat.{mul-le}
use Rattle.rmt_memory.specs.Slicing.{nibble}
use Rattle.rmt_memory.proofs.SliceLaws.{nibble-lt}
use Rattle.rmt_memory.proofs.sliced.Sliced.vectors_of.Goals as goal

pub returns-clause-within : goal.returns-clause-within
returns-clause-within c = λ n lt.
    let s = c.args.self.now in
    let x = nibble c.args.key.now n in
    let small = nibble-lt c.args.key.now n in
    let starts = c.loop-at.invariant.each n (omega (arith, lt)) in
    let next : (16 * n + x + 1) * s.width ≡ (16 * n + x) * s.width + s.width = omega arith in
    let most : (16 * n + x + 1) * s.width ≤ (160 * s.words + 3) * s.width =
    mul-le (16 * n + x + 1) s.width (160 * s.words + 3) s.width (omega (arith, lt, small)) (omega arith) in
    omega (arith, starts, next, most, s.all)

pub overflow_mul-vectors-in-loop-at : goal.overflow_mul-vectors-in-loop-at
overflow_mul-vectors-in-loop-at c =
    let s = c.args.self.now in
    let small = c.nibble.ensures.small in
    let most = mul-le (16 * c.loop-at.at + c.nibble.result) s.width (160 * s.words + 3) s.width (omega (arith, small, c.loop-at-test.true)) (omega arith) in
    omega (arith, most, s.all)

pub loop-at-preserved : goal.loop-at-preserved
loop-at-preserved c =
    let at = c.loop-at.at in
    let value = λ (x : ℕ). (16 * at + x) * c.args.self.now.width in
    record {
      size = length-set c.loop-at.vectors at (value c.nibble.result) ∙ c.loop-at.invariant.size;
      each = below_more _ _
          (λ n h. let ne : n ≢ at = omega arith in rw get_or-set_other (c.loop-at.invariant.each n h))
          (let lt : at < length c.loop-at.vectors = omega arith in rw get_or-set_same (ap value c.nibble.ensures.value));
    }

pub returns-clause-starts : goal.returns-clause-starts
returns-clause-starts c = λ n lt. c.loop-at.invariant.each n (omega (arith, lt))
