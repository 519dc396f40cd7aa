use Rattle.std.proofs.Common.{◌≡◌, ◌+◌, ◌-◌, ◌*◌, ◌<◌, ℕ, List, min, drop, get_or, sym, ap, ◌∙◌, subst, arith, below_more}
use Rattle.std.specs.Prelude.{bit_and}
use Rattle.std.specs.Int.{bit_at}
use Rattle.std.proofs.lemmas.List.{get_or-drop, get_or-take}
use Rattle.std.proofs.lemmas.Nat.Bits.{bit_at_and, bit_at-lt}
use Rattle.rmt_memory.specs.Slicing.{IsOn}
use Rattle.rmt_memory.proofs.SliceLaws.{seen-end}
use Rattle.rmt_memory.proofs.sliced.Sliced.left_of_eight.Goals as goal

pub loop-nibble-preserved : goal.loop-nibble-preserved
loop-nibble-preserved c =
    let bits = c.args.self.now.bits.items in
    let seen = c.deref-in-loop-nibble.result.now in
    let same : seen ≡ bits = c.deref-in-loop-nibble.ensures.value in
    let vectors = c.args.vectors.now in
    let at = c.args.at in
    let n = c.loop-nibble.nibble in
    let old = c.loop-nibble.left in
    let new = c.keep.new.words in
    let from : ℕ = get_or vectors n 0 + at in
    let other : ℕ → ℕ = λ k. get_or bits (get_or vectors n 0 + (at + k)) 0 in
    let kept : (k : ℕ) → k < 8 → get_or new k 0 ≡ bit_and (get_or old k 0) (other k) = λ k lt.
    let place : from + k ≡ get_or vectors n 0 + (at + k) = omega arith in
    c.keep.ensures.each k lt
    ∙ ap (bit_and (get_or old k 0))
    (get_or-take (from + 8 - from) (drop from seen) k 0 (omega (arith, lt)) ∙ get_or-drop from seen k 0
    ∙ ap (λ (bs : List ℕ). get_or bs (from + k) 0) same ∙ ap (λ m. get_or bits m 0) place) in
    record {
      size = c.keep.ensures.size;
      on = λ k j lt h.
          let x = get_or old k 0 in
          let both : min (bit_at x j) (bit_at (other k) j) ≡ 1 = sym (bit_at_and x (other k) j) ∙ sym (ap (λ w. bit_at w j) (kept k lt)) ∙ h in
          let bit = bit_at-lt x j in
          let bit' = bit_at-lt (other k) j in
          let was : bit_at x j ≡ 1 = omega (arith, both, bit, bit') in
          let here : bit_at (other k) j ≡ 1 = omega (arith, both, bit, bit') in
          let before = c.loop-nibble.invariant.on k j lt was in
          (before.0, below_more (λ m. bit_at (get_or bits (get_or vectors m 0 + (at + k)) 0) j ≡ 1) n before.1 here);
      all = λ k j lt on.
          let was = c.loop-nibble.invariant.all k j lt (on.0, λ m less. on.1 m (omega (arith, less))) in
          let here = on.1 n (omega arith) in
          ap (λ w. bit_at w j) (kept k lt) ∙ bit_at_and (get_or old k 0) (other k) j ∙ omega (arith, was, here);
    }

pub overflow_mul-from-2 : goal.overflow_mul-from-2
overflow_mul-from-2 c = let s = c.args.self.now in let end = seen-end s.words s.width c.args.sight c.requires.sight in omega (arith, end, s.all)

pub overflow_add-from-2 : goal.overflow_add-from-2
overflow_add-from-2 c = let s = c.args.self.now in let end = seen-end s.words s.width c.args.sight c.requires.sight in omega (arith, end, s.all)

pub overflow_add-from-3 : goal.overflow_add-from-3
overflow_add-from-3 c = let s = c.args.self.now in let end = seen-end s.words s.width c.args.sight c.requires.sight in omega (arith, end, s.all)

pub returns-clause-on : goal.returns-clause-on
returns-clause-on c = λ k j lt h.
    let end : c.loop-nibble.nibble ≡ 10 * c.args.self.now.words = omega arith in
    subst (λ n. IsOn c.args.self.now c.args.sight c.args.vectors.now n (c.args.at + k) j) end (c.loop-nibble.invariant.on k j lt h)

pub returns-clause-all : goal.returns-clause-all
returns-clause-all c = λ k j lt on.
    let end : c.loop-nibble.nibble ≡ 10 * c.args.self.now.words = omega arith in
    c.loop-nibble.invariant.all k j lt (subst (λ n. IsOn c.args.self.now c.args.sight c.args.vectors.now n (c.args.at + k) j) (sym end) on)
