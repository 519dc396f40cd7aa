use Rattle.std.proofs.Common.{arith}
use Rattle.rmt_bits.proofs.MemberLaws.{Contains-between}
use Rattle.rmt_cuckoo.proofs.RowLaws.{taken_next}
use Rattle.rmt_cuckoo.proofs.choices.free_in_row.Goals as goal

pub returns-then-holders-cell-eq0-clause-chosen : goal.returns-then-holders-cell-eq0-clause-chosen
returns-then-holders-cell-eq0-clause-chosen c = Contains-between c.args.start c.args.per c.loop-cell.cell (omega arith) (omega arith)

pub loop-cell-preserved : goal.loop-cell-preserved
loop-cell-preserved c = taken_next c.args.holders.now c.args.start c.loop-cell.cell (omega arith) (omega arith) c.loop-cell.invariant
