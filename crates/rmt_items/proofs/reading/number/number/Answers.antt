use Rattle.std.proofs.Common.{◌≡◌, ◌*◌, ◌^◌, ◌<◌, arith, length, ap, ◌∙◌, sym, subst}
use Rattle.std.proofs.lemmas.List.{take_all}
use Rattle.rmt_bits.specs.Bits.{number_of}
use Rattle.rmt_bits.proofs.ByteLaws.{number_of-lt}
use Rattle.rmt_items.proofs.NumberLaws.{front-lt}
use Rattle.rmt_items.proofs.reading.number.number.Goals as goal

pub overflow_mul-number : goal.overflow_mul-number
overflow_mul-number c =
    let lt = front-lt c.args.bytes.now c.loop-byte.byte-index (λ i. omega (arith, c.type_inv.bytes i)) (omega (arith, c.loop-byte-test.true, c.requires)) in
    omega (arith, c.loop-byte.invariant, lt)

pub overflow_add-number : goal.overflow_add-number
overflow_add-number c =
    let lt = front-lt c.args.bytes.now c.loop-byte.byte-index (λ i. omega (arith, c.type_inv.bytes i)) (omega (arith, c.loop-byte-test.true, c.requires)) in
    omega (arith, c.loop-byte.invariant, lt)

pub returns-clause-small : goal.returns-clause-small
returns-clause-small c =
    let whole : c.loop-byte.number ≡ number_of c.args.bytes.now = c.loop-byte.invariant ∙ ap number_of (take_all c.loop-byte.byte-index c.args.bytes.now (omega (arith, c.loop-byte-test.false))) in
    subst (λ n. n < 2 ^ (8 * length c.args.bytes.now)) (sym whole) (number_of-lt c.args.bytes.now (λ i. omega (arith, c.type_inv.bytes i)))
