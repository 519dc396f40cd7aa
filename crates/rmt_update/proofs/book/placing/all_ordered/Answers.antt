use Rattle.std.proofs.Common.{refl}
use Rattle.rmt_update.specs.Come.{AreOrdered}
use Rattle.rmt_book.proofs.SliceLoops.{all-more}
use Rattle.rmt_update.proofs.book.placing.all_ordered.Goals as goal

pub loop-table-preserved : goal.loop-table-preserved
loop-table-preserved c = all-more AreOrdered c.args.tables.now c.args.tables.now c.loop-table.table-index c.table-item.result refl c.loop-table-test.true c.table-item.is c.loop-table.invariant c.are_ordered.ensures
