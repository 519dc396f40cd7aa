use Rattle.std.proofs.Common.{arith}
use Rattle.rmt_cuckoo.proofs.MoveLaws.{taken_more}
use Rattle.rmt_cuckoo.proofs.loading.taken_from.Goals as goal

pub loop-cell-preserved : goal.loop-cell-preserved
loop-cell-preserved c = taken_more c.args.holders.now c.loop-cell.cell c.loop-cell.invariant (omega arith)
