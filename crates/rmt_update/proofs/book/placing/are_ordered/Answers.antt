use Rattle.std.specs.BTreeMap.{IsOrdered}
use Rattle.std.specs.Ordering.{nat_cmp}
use Rattle.rmt_book.specs.declared.table.PartCells.{PartCells}
use Rattle.rmt_book.proofs.SliceLoops.{all-more}
use Rattle.rmt_update.proofs.book.placing.are_ordered.Goals as goal

pub loop-part-preserved : goal.loop-part-preserved
loop-part-preserved c =
    all-more (λ (x : PartCells). IsOrdered nat_cmp x.cells) c.args.table.now.parts.items c.as_slice-part-items.result.now c.loop-part.part-index c.part-item.result c.as_slice-part-items.ensures.value
    c.loop-part-test.true c.part-item.is c.loop-part.invariant c.is_ordered.ensures
