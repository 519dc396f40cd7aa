use Rattle.std.proofs.Common.{◌≡◌, ◌-◌, ◌+◌, ◌*◌, length, sym, ap, ◌∙◌, arith}
use Rattle.rmt_bits.specs.Bits.{slice, deposit, number_of, bytes_of}
use Rattle.rmt_bits.proofs.ByteLaws.{bytes_of-number_of, number_of-zeros}
use Rattle.rmt_config.specs.BlockCounts.{divided_up}
use Rattle.rmt_config.specs.Cells.{unit_row}
use Rattle.rmt_pack.specs.Rows.{blocks_of}
use Rattle.rmt_pack.proofs.RowLaws.{blocks-within}
use Rattle.rmt_pack.proofs.RunLaws.{read-none, read-more, read-all}
use Rattle.rmt_pack.proofs.run.read_run.Goals as goal

pub loop-left-init : goal.loop-left-init
loop-left-init c =
    let same : length c.clear.new.bytes ≡ length c.args.bytes.now = omega arith in (
      omega arith,
      same ∙ c.requires.bytes,
      ap number_of c.clear.ensures ∙ number_of-zeros (length c.args.bytes.now) ∙ read-none (unit_row 112 (blocks_of c.args.rows.now) c.args.row c.args.blocks.now) c.args.low c.args.len,
      λ i. (c.type_inv.bytes i).fits,
    )

pub loop-left-preserved : goal.loop-left-preserved
loop-left-preserved c =
    let piece = c.last_piece-piece.result in
    let left = c.loop-left.left in
    let same : length c.bytes_of_bits.new.into ≡ length c.loop-left.bytes = omega arith in
    let at : 8 * length c.loop-left.bytes - (8 * length c.loop-left.bytes - left + piece.len) ≡ left - piece.len = omega arith in (
      omega arith,
      same ∙ c.loop-left.invariant.1,
      read-more (blocks_of c.args.rows.now) c.args.row c.args.blocks.now c.args.low c.args.len left piece.block piece.low piece.len c.slice-bits.result (number_of c.loop-left.bytes) (number_of c.bytes_of_bits.new.into)
          (blocks-within c.args.rows.now) (omega arith) c.last_piece-piece.ensures.within c.last_piece-piece.ensures.end c.last_piece-piece.ensures.most c.loop-left.invariant.0
          (c.slice-bits.ensures ∙ ap (λ n. slice n piece.low piece.len) c.row.ensures.value) c.loop-left.invariant.2
          (c.bytes_of_bits.ensures ∙ ap (λ n. deposit (number_of c.loop-left.bytes) n piece.len c.slice-bits.result) at),
      λ i. (c.type_inv.bytes i).fits,
    )

pub returns : goal.returns
returns c =
    let s = slice (unit_row 112 (blocks_of c.args.rows.now) c.args.row c.args.blocks.now) c.args.low c.args.len in
    sym (bytes_of-number_of c.loop-left.bytes c.loop-left.invariant.3)
    ∙ ap (λ n. bytes_of n (number_of c.loop-left.bytes)) c.loop-left.invariant.1
    ∙ ap (bytes_of (divided_up c.args.len 8)) (c.loop-left.invariant.2 ∙ read-all s c.loop-left.left (omega arith))
