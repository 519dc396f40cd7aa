use Rattle.std.proofs.Common.{◌≡◌, ◌+◌, ◌-◌, ◌^◌, ◌≤◌, ◌++◌, ◌∷◌, List, ℕ, get_or, drop, sum, sym, ap, ◌∙◌, arith}
use Rattle.std.specs.Prelude.{if◌then◌else◌}
use Rattle.std.proofs.lemmas.List.Sums.{sum_by-cons}
use Rattle.rmt_ast.specs.declared.program.Test.{Test}
use Rattle.rmt_bits.specs.Bits.{number_of}
use Rattle.rmt_config.specs.NamesForm.{tests_of_key}
use Rattle.rmt_book.proofs.ToldLaws.{tests-more, width-first}
use Rattle.rmt_book.proofs.told.tests_of.Goals as goal

pub overflow_sub-low : goal.overflow_sub-low
overflow_sub-low c =
    let ws = c.args.widths.now in
    let i = c.loop-width.width-index in
    let w = get_or ws i 0 in
    let here : drop i ws ≡ w ∷ drop (i + 1) ws = width-first ws i c.loop-width-test.true in
    let split : sum (w ∷ drop (i + 1) ws) ≡ w + sum (drop (i + 1) ws) = sum_by-cons (λ (n : ℕ). n) w (drop (i + 1) ws) in
    let e = ap sum here in
    omega (arith, e, split, c.loop-width.invariant.place)

pub loop-width-preserved : goal.loop-width-preserved
loop-width-preserved c =
    let l = c.loop-width in
    let ws = c.args.widths.now in
    let i = l.width-index in
    let w = get_or ws i 0 in
    let key = number_of c.args.key.now in
    let mask = if c.args.whole then 2 ^ sum ws - 1 else number_of c.args.mask.now in
    let here : drop i ws ≡ w ∷ drop (i + 1) ws = width-first ws i c.loop-width-test.true in
    let split : sum (w ∷ drop (i + 1) ws) ≡ w + sum (drop (i + 1) ws) = sum_by-cons (λ (n : ℕ). n) w (drop (i + 1) ws) in
    let e : l.low ≡ sum (w ∷ drop (i + 1) ws) = l.invariant.place ∙ ap sum here in
    let inside : l.low - w + w ≤ sum ws = omega (arith, e, split, l.invariant.within) in
    record {
      within = omega (arith, l.invariant.within);
      place = omega (arith, e, split);
      so_far = ap (λ (ts : List Test). ts ++ tests_of_key (drop (i + 1) ws) key mask) c.in_ok-push.ensures.ok
          ∙ tests-more l.tests w (drop (i + 1) ws) key mask l.low (l.low - w) c.bits_from.result c.mask_from.result (tests_of_key ws key mask) e (let z : l.low - w ≡ l.low - w = omega arith in z)
          c.bits_from.ensures (c.mask_from.ensures (sum ws) inside)
          (ap (λ (vs : List ℕ). l.tests ++ tests_of_key vs key mask) (sym here) ∙ l.invariant.so_far);
    }
