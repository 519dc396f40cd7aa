use Rattle.std.proofs.Common.{◌≡◌, ◌≢◌, ◌+◌, ◌*◌, ◌/◌, ◌%◌, ◌<◌, length, get_or, set, sym, ap, ◌∙◌, arith, inl, inr}
use Rattle.std.specs.Int.{bit_at}
use Rattle.std.proofs.lemmas.Bool.{cases_eq}
use Rattle.std.proofs.lemmas.List.{get_or-set_same, get_or-set_other}
use Rattle.std.proofs.lemmas.Nat.{same_from_place}
use Rattle.rmt_memory.specs.Slicing.{bit_in}
use Rattle.rmt_memory.proofs.row_bits.set_bit.Goals as goal

pub returns-clause-others : goal.returns-clause-others
returns-clause-others c = λ v r inside differ.
    let bits = c.args.bits.now in
    let w = c.args.width in
    let at = c.args.vector * w + c.args.row / 64 in
    let x = c.with_bit.result in
    let next : (c.args.vector + 1) * w ≡ c.args.vector * w + w = omega arith in
    let there : at < length bits = omega (arith, c.requires.row, c.requires.vector, next) in
    elim (cases_eq (v * w + r / 64) at) as (λ _. bit_in (set bits at x) w v r ≡ bit_in bits w v r) [
      | inl same ↦
          let place = same_from_place v (r / 64) c.args.vector (c.args.row / 64) w (omega (arith, inside)) (omega (arith, c.requires.row)) same in
          let apart : r % 64 ≢ c.args.row % 64 = λ e. differ place.0 (omega (arith, place.1, e)) in
          ap (λ n. bit_at (get_or (set bits at x) n 0) (r % 64)) same
          ∙ ap (λ n. bit_at n (r % 64)) (get_or-set_same bits at x 0 there)
          ∙ c.with_bit.ensures.others (r % 64) (omega arith) apart
          ∙ ap (λ n. bit_at (get_or bits n 0) (r % 64)) (sym same)
      | inr other ↦ ap (λ n. bit_at n (r % 64)) (get_or-set_other bits at (v * w + r / 64) x 0 other)
    ]
