use Rattle.std.proofs.Common.{◌≡◌, take, map}
use Rattle.rmt_config.specs.declared.config.TcamRow.{TcamRow}
use Rattle.rmt_config.specs.Cells.{tcam_row}
use Rattle.rmt_book.proofs.rows.tcam_words.Given as goal

-- the blocks so far
abbrev pub invariant-loop-block : goal.invariant-loop-block
invariant-loop-block l = record {
  values : l.values.items ≡ map (λ b. tcam_row (λ (t : TcamRow). t.value) l.rows b l.row) (take l.block-index l.blocks);
  masks : l.masks.items ≡ map (λ b. tcam_row (λ (t : TcamRow). t.mask) l.rows b l.row) (take l.block-index l.blocks);
}
