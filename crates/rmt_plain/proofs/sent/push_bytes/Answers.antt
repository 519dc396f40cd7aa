use Rattle.std.proofs.Common.{◌++◌, ℕ, List, ap, sym, ◌∙◌}
use Rattle.rmt_bits.proofs.ByteLaws.{bytes_of-number_of}
use Rattle.rmt_plain.proofs.sent.push_bytes.Goals as goal

pub returns : goal.returns
returns c = c.in_ok-extend_from_slice.ensures.items ∙ ap (λ (xs : List ℕ). c.args.out.now.items ++ xs) (sym (bytes_of-number_of c.args.bytes.now (λ i. (c.type_inv.bytes i).fits)))
