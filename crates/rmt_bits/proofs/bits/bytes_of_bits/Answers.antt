use Rattle.std.proofs.Common.{arith}
use Rattle.rmt_bits.proofs.ByteLaws.{wrote_more}
use Rattle.rmt_bits.proofs.bits.bytes_of_bits.Goals as goal

pub loop-left-preserved : goal.loop-left-preserved
loop-left-preserved c =
    let piece = c.first_piece-piece.result in
    let more = wrote_more c.loop-left.into c.args.into.now c.args.value c.args.from c.args.len c.loop-left.left piece.len piece.low piece.byte c.byte_at-old.result c.slice-bits.result c.byte_with.result c.byte_at-old.ensures.bytes (omega arith) c.requires.small (omega arith) (omega arith) (omega arith) (omega arith) (omega arith) (omega arith) c.loop-left.invariant.1 c.byte_at-old.ensures.value c.slice-bits.ensures c.byte_with.ensures in
    (omega arith, more.0)
