use Rattle.std.proofs.Common.{ℕ}
use Rattle.rmt_config.specs.declared.config.TcamRow.{TcamRow}
use Rattle.rmt_config.specs.Cells.{tcam_row}
use Rattle.rmt_book.proofs.SliceLoops.{map-all, map-next}
use Rattle.rmt_book.proofs.rows.tcam_words.Goals as goal

pub loop-block-preserved : goal.loop-block-preserved
loop-block-preserved c =
    let of : (TcamRow → ℕ) → ℕ → ℕ = λ part b. tcam_row part c.args.rows.now b c.args.row in
    let blocks = c.args.blocks.now in
    let i = c.loop-block.block-index in
    let h = c.loop-block.invariant in
    record {
      values = map-next (of (λ t. t.value)) blocks i 0 c.loop-block.values.items _ _ c.loop-block-test.true h.values c.in_ok-push.ensures.items c.row_compared-compared.ensures.value;
      masks = map-next (of (λ t. t.mask)) blocks i 0 c.loop-block.masks.items _ _ c.loop-block-test.true h.masks c.in_ok-push-2.ensures.items c.row_compared-compared.ensures.mask;
    }

pub returns-clause-values : goal.returns-clause-values
returns-clause-values c =
    map-all (λ b. tcam_row (λ (t : TcamRow). t.value) c.args.rows.now b c.args.row) c.args.blocks.now c.loop-block.block-index c.loop-block.values.items c.loop-block.invariant.values c.loop-block-test.false

pub returns-clause-masks : goal.returns-clause-masks
returns-clause-masks c =
    map-all (λ b. tcam_row (λ (t : TcamRow). t.mask) c.args.rows.now b c.args.row) c.args.blocks.now c.loop-block.block-index c.loop-block.masks.items c.loop-block.invariant.masks c.loop-block-test.false
