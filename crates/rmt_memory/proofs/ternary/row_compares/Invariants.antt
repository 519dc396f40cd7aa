use Rattle.std.proofs.Common.{◌≡◌, take, map}
use Rattle.rmt_memory.specs.Types.{TcamRow}
use Rattle.rmt_config.specs.Cells.{tcam_row}
use Rattle.rmt_memory.proofs.ternary.row_compares.Given as goal

abbrev pub invariant-loop-block : goal.invariant-loop-block
invariant-loop-block l = record {
  masks : l.masks.items ≡ map (λ b. tcam_row (λ (t : TcamRow). t.mask) l.rows b l.row) (take l.block-index l.blocks);
  values : l.values.items ≡ map (λ b. tcam_row (λ (t : TcamRow). t.value) l.rows b l.row) (take l.block-index l.blocks);
}
