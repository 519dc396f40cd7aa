use Rattle.std.proofs.Common.{◌≡◌, ◌<◌, ◌+◌, ◌-◌, ◌*◌, ◌^◌, ℕ, length, sym, ap, ◌∙◌, subst, inl, inr, arith}
use Rattle.std.proofs.lemmas.Bool.{cases_lt}
use Rattle.rmt_bits.specs.Bits.{number_of, slice}
use Rattle.rmt_bits.proofs.BitLaws.{slice-lt}
use Rattle.rmt_bits.proofs.ByteLaws.{number_of-lt}
use Rattle.rmt_chip.proofs.ComputeLaws.{held_past, held_end}
use Rattle.rmt_chip.proofs.compute.held_bits.Goals as goal

pub returns-then-low-bits-clause-value : goal.returns-then-low-bits-clause-value
returns-then-low-bits-clause-value c =
    let below = number_of-lt c.args.held.now (λ i. (c.type_inv.held i).fits) in
    held_past (number_of c.args.held.now) (8 * length c.args.held.now) c.args.low c.args.len below (let low = c.from-low.ensures in omega arith)

pub returns-clause-value : goal.returns-clause-value
returns-clause-value c =
    let n = number_of c.args.held.now in
    let bits = 8 * length c.args.held.now in
    let low = c.from-low.ensures in
    let from = c.from.ensures in
    let min_is = c.min-here.ensures in
    let below = number_of-lt c.args.held.now (λ i. (c.type_inv.held i).fits) in
    let place : bits - (bits - c.from-low.result - c.min-here.result + c.min-here.result) ≡ c.args.low = omega arith in
    let read : c.bits_of_bytes.result ≡ slice n c.args.low c.min-here.result =
    c.bits_of_bytes.ensures ∙ ap (λ (k : ℕ). slice n k c.min-here.result) place in
    elim (cases_lt (bits - c.args.low) c.args.len) [
      | inl short ↦ read ∙ held_end n bits c.args.low c.min-here.result c.args.len below (omega arith) (omega arith)
      | inr long ↦ let same : c.min-here.result ≡ c.args.len = omega arith in read ∙ ap (slice n c.args.low) same
    ]

pub returns-clause-within : goal.returns-clause-within
returns-clause-within c = subst (λ (x : ℕ). x < 2 ^ c.args.len) (sym (returns-clause-value c)) (slice-lt (number_of c.args.held.now) c.args.low c.args.len)
