use Rattle.std.proofs.Common.{◌≡◌, ◌+◌, ◌*◌, ◌%◌, ◌^◌, bit_and, arith, ℕ, ap, ◌∙◌}
use Rattle.std.proofs.lemmas.Nat.{and_mask}
use Rattle.rmt_bits.proofs.BitLaws.{deposit-lt, shl-lt}
use Rattle.rmt_bits.proofs.bits.deposit.Goals as goal

pub moved_up-requires-clause-fits : goal.moved_up-requires-clause-fits
moved_up-requires-clause-fits c = shl-lt c.args.x c.args.low c.args.len 128 c.requires.within c.requires.small

pub overflow_add-result : goal.overflow_add-result
overflow_add-result c =
    let high = c.moved_up-high.ensures ∙ ap (λ (n : ℕ). n * 2 ^ (c.args.low + c.args.len)) c.moved_down.ensures in
    let whole = deposit-lt c.args.v c.args.low c.args.len c.args.x 128 c.requires.within (omega arith) c.requires.small in
    omega arith

pub overflow_add-result-2 : goal.overflow_add-result-2
overflow_add-result-2 c =
    let high = c.moved_up-high.ensures ∙ ap (λ (n : ℕ). n * 2 ^ (c.args.low + c.args.len)) c.moved_down.ensures in
    let whole = deposit-lt c.args.v c.args.low c.args.len c.args.x 128 c.requires.within (omega arith) c.requires.small in
    let low : bit_and c.args.v c.ones.result ≡ c.args.v % 2 ^ c.args.low = rw c.ones.ensures (and_mask c.args.v c.args.low) in
    omega arith

pub returns : goal.returns
returns c =
    let high = c.moved_up-high.ensures ∙ ap (λ (n : ℕ). n * 2 ^ (c.args.low + c.args.len)) c.moved_down.ensures in
    let low : bit_and c.args.v c.ones.result ≡ c.args.v % 2 ^ c.args.low = rw c.ones.ensures (and_mask c.args.v c.args.low) in
    omega arith
