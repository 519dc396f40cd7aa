use Rattle.std.proofs.Common.{get_or, ap, ◌∙◌, arith}
use Rattle.rmt_bits.specs.Bits.{deposit, number_of}
use Rattle.rmt_pack.specs.Rows.{blocks_of}
use Rattle.rmt_pack.proofs.RowLaws.{blocks-within}
use Rattle.rmt_pack.proofs.RunLaws.{puts-more}
use Rattle.rmt_pack.proofs.run.write_run.Goals as goal

pub loop-left-preserved : goal.loop-left-preserved
loop-left-preserved c =
    let piece = c.last_piece-piece.result in (
      omega arith,
      puts-more (blocks_of c.args.rows.now) (blocks_of c.loop-left.rows) (blocks_of c.put.new.rows) c.args.row c.args.blocks.now c.args.low c.args.len c.loop-left.left piece.block piece.low piece.len (number_of c.args.bytes.now)
          (blocks-within c.loop-left.rows) c.requires.apart (omega arith) c.last_piece-piece.ensures.within c.last_piece-piece.ensures.end c.last_piece-piece.ensures.most c.loop-left.invariant.0 c.requires.small
          (c.put.ensures.row ∙ ap (deposit (blocks_of c.loop-left.rows (get_or c.args.blocks.now piece.block 0) c.args.row) piece.low piece.len) c.taken-bits.ensures.bits) c.put.ensures.others c.loop-left.invariant.1,
    )
