use Rattle.std.proofs.Common.{◌∙◌, arith}
use Rattle.rmt_cuckoo.proofs.RowLaws.{row_more}
use Rattle.rmt_cuckoo.proofs.choices.push_row.Goals as goal

pub loop-cell-preserved : goal.loop-cell-preserved
loop-cell-preserved c =
    c.in_ok-push.ensures.items
    ∙ row_more c.loop-cell.cells.items c.args.cells.now.items c.args.start c.loop-cell.cell (omega arith) c.loop-cell.invariant
