use Rattle.std.proofs.Common.{◌≡◌, ℕ, List, length, ap, sym, ◌∙◌, arith}
use Rattle.std.specs.Prelude.{slice_index}
use Rattle.rmt_bits.specs.Bits.{bytes_of, number_of}
use Rattle.rmt_bits.specs.declared.lane.Lane.{Lane}
use Rattle.rmt_bits.proofs.ByteLaws.{bytes_of-number_of}
use Rattle.rmt_config.specs.Life.{key_of}
use Rattle.rmt_chip.proofs.header.put_header.Goals as goal

pub returns : goal.returns
returns c =
    let new = c.put_together.new.buffer in
    let same = c.put_together.auto.buffer in
    let whole = c.requires.whole in
    let size : length new ≡ c.args.header.now.bytes = omega arith in
    let words = λ (w : ℕ). slice_index c.args.vector.now w in
    sym (bytes_of-number_of new (λ i. (c.type_inv.buffer i).fits))
    ∙ ap (λ (n : ℕ). bytes_of n (number_of new)) size
    ∙ ap (bytes_of c.args.header.now.bytes) (c.put_together.ensures ∙ ap (λ (ls : List Lane). key_of words ls) c.as_slice.ensures)
