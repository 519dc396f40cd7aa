use Rattle.std.proofs.Common.{ℕ, length, ap, ◌∙◌, arith}
use Rattle.std.specs.Prelude.{slice_index}
use Rattle.std.proofs.lemmas.List.{length-append}
use Rattle.rmt_bits.specs.Bits.{bytes_of}
use Rattle.rmt_bits.proofs.ByteLaws.{length-bytes_of}
use Rattle.rmt_config.specs.Life.{key_of}
use Rattle.rmt_chip.proofs.emit.push_header.Goals as goal

pub push_part-requires-clause-room : goal.push_part-requires-clause-room
push_part-requires-clause-room c =
    let h = c.args.header.now in
    let key = key_of (λ (w : ℕ). slice_index c.args.vector.now w) h.pieces in
    let grown = ap length c.push_lanes.ensures ∙ length-append c.args.out.now (bytes_of h.bytes key) in
    let size = length-bytes_of h.bytes key in
    let few = c.requires.fits.few_bytes in
    let room = c.requires.room in
    let tail = c.from-then-lane-eq1.ensures in
    omega arith
