use Rattle.std.proofs.Common.{◌≡◌, ◌+◌, ◌*◌, ◌^◌, ◌<◌, ℕ, ap, ◌∙◌, arith}
use Rattle.rmt_bits.specs.Bits.{slice as slice_of, bits_of_bytes as bits_of}
use Rattle.rmt_bits.proofs.ByteLaws.{read_more}
use Rattle.rmt_bits.proofs.bits.bits_of_bytes.Goals as goal
use Rattle.rmt_bits.proofs.bits.bits_of_bytes.Goals.{After-slice-bits}

-- what the bits that are read make of the number so far
grown : (c : After-slice-bits) → (let value = c.loop-done.value * 2 ^ c.first_piece-piece.result.len + c.slice-bits.result in
    (value ≡ bits_of c.args.bytes.now c.args.from (c.loop-done.done + c.first_piece-piece.result.len)) × (value < 2 ^ 128))
grown c =
    let p = c.first_piece-piece.result.len in
    let low = c.first_piece-piece.result.low in
    let read = c.slice-bits.ensures ∙ ap (λ (n : ℕ). slice_of n low p) c.from-in-loop-done.ensures in
    read_more c.args.bytes.now c.args.from c.loop-done.done c.args.len p low c.first_piece-piece.result.byte c.loop-done.value c.slice-bits.result (λ i. (c.type_inv.bytes i).fits) (omega arith) (omega arith) (omega arith) (omega arith) (omega arith) (omega arith) c.loop-done.invariant.1 read

pub moved_up-requires-clause-fits : goal.moved_up-requires-clause-fits
moved_up-requires-clause-fits c = let fits = (grown (goal.at.moved_up-requires-clause-fits c).After-slice-bits).1 in omega arith

pub overflow_add-value : goal.overflow_add-value
overflow_add-value c = let fits = (grown (goal.at.overflow_add-value c).After-slice-bits).1 in omega arith

pub loop-done-preserved : goal.loop-done-preserved
loop-done-preserved c =
    (omega arith, ap (λ (n : ℕ). n + c.slice-bits.result) c.moved_up.ensures ∙ (grown (goal.at.loop-done-preserved c).After-slice-bits).0)
