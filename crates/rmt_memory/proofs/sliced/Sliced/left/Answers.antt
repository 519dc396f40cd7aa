use Rattle.std.proofs.Common.{◌≡◌, ◌+◌, ◌*◌, ◌<◌, min, length, get_or, sym, ap, ◌∙◌, subst, arith, below_more}
use Rattle.std.specs.Int.{bit_at}
use Rattle.std.proofs.lemmas.Grind.{get_or_default_zero}
use Rattle.std.proofs.lemmas.Nat.Bits.{bit_at_and, bit_at-lt, bit_at-zero}
use Rattle.rmt_memory.specs.Slicing.{IsOn}
use Rattle.rmt_memory.proofs.SliceLaws.{seen-end}
use Rattle.rmt_memory.proofs.sliced.Sliced.left.Goals as goal

pub loop-nibble-preserved : goal.loop-nibble-preserved
loop-nibble-preserved c =
    let bits = c.args.self.now.bits.items in
    let vectors = c.args.vectors.now in
    let at = c.args.at in
    let n = c.loop-nibble.nibble in
    let old = c.loop-nibble.left in
    let x = c.index.result.now in
    let place = get_or vectors n 0 + at in
    let end = c.requires.within n c.loop-nibble-test.true in
    let there : place < length bits = omega (arith, end, c.requires.at, c.args.self.now.bits.ok.0) in
    let x-is : x ≡ get_or bits place 0 = c.index.ensures ∙ get_or_default_zero bits place x there in
    record {
      on = λ j h.
          let both : min (bit_at old j) (bit_at x j) ≡ 1 = sym (bit_at_and old x j) ∙ h in
          let bit = bit_at-lt old j in
          let bit' = bit_at-lt x j in
          let was : bit_at old j ≡ 1 = omega (arith, both, bit, bit') in
          let here : bit_at x j ≡ 1 = omega (arith, both, bit, bit') in
          let before = c.loop-nibble.invariant.on j was in
          (before.0, below_more (λ k. bit_at (get_or bits (get_or vectors k 0 + at) 0) j ≡ 1) n before.1 (sym (ap (λ y. bit_at y j) x-is) ∙ here));
      all = λ j on.
          let was : bit_at old j ≡ 1 = c.loop-nibble.invariant.all j (on.0, λ k lt. on.1 k (omega (arith, lt))) in
          let here : bit_at x j ≡ 1 = ap (λ y. bit_at y j) x-is ∙ on.1 n (omega arith) in
          bit_at_and old x j ∙ omega (arith, was, here);
    }

pub overflow_mul-self-2 : goal.overflow_mul-self-2
overflow_mul-self-2 c = let s = c.args.self.now in let end = seen-end s.words s.width c.args.sight c.requires.sight in omega (arith, end, s.all)

pub overflow_add-self-2 : goal.overflow_add-self-2
overflow_add-self-2 c = let s = c.args.self.now in let end = seen-end s.words s.width c.args.sight c.requires.sight in omega (arith, end, s.all)

pub loop-nibble-init : goal.loop-nibble-init
loop-nibble-init c =
    let s = c.args.self.now in
    let bits = s.bits.items in
    let place = (160 * s.words + c.args.sight) * s.width + c.args.at in
    let x = c.index-left.result.now in
    let end = seen-end s.words s.width c.args.sight c.requires.sight in
    let there : place < length bits = omega (arith, end, c.requires.at, s.all, s.bits.ok.0) in
    let x-is = c.index-left.ensures ∙ get_or_default_zero bits place x there in
    record {
      on = λ j h. (sym (ap (λ y. bit_at y j) x-is) ∙ h, λ n lt. absurd (omega (arith, lt)));
      all = λ j on. ap (λ y. bit_at y j) x-is ∙ on.0;
    }

pub returns-then-left-eq0-clause-on : goal.returns-then-left-eq0-clause-on
returns-then-left-eq0-clause-on c = λ j h. absurd (let none = bit_at-zero j in omega (arith, h, none))

pub returns-then-left-eq0-clause-all : goal.returns-then-left-eq0-clause-all
returns-then-left-eq0-clause-all c = λ j on.
    let was = c.loop-nibble.invariant.all j (on.0, λ k lt. on.1 k (omega (arith, lt, c.loop-nibble-test.true))) in sym (ap (λ w. bit_at w j) c.if-left-eq0.true) ∙ was

pub returns-clause-on : goal.returns-clause-on
returns-clause-on c = λ j h.
    let end : c.loop-nibble.nibble ≡ 10 * c.args.self.now.words = omega arith in
    subst (λ n. IsOn c.args.self.now c.args.sight c.args.vectors.now n c.args.at j) end (c.loop-nibble.invariant.on j h)

pub returns-clause-all : goal.returns-clause-all
returns-clause-all c = λ j on.
    let end : c.loop-nibble.nibble ≡ 10 * c.args.self.now.words = omega arith in
    c.loop-nibble.invariant.all j (subst (λ n. IsOn c.args.self.now c.args.sight c.args.vectors.now n c.args.at j) (sym end) on)
