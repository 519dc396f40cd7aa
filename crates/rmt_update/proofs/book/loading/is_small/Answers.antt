use Rattle.std.proofs.Common.{arith}
use Rattle.rmt_cuckoo.specs.declared.layout.Ways.{Ways}
use Rattle.rmt_update.proofs.SmallLaws.{cells-more}
use Rattle.rmt_update.proofs.book.loading.is_small.Goals as goal

abbrev none : Ways
none = record { rows = 0; per = 0 }

pub loop-part-preserved : goal.loop-part-preserved
loop-part-preserved c =
    let i = c.loop-part.part-index in
    let small = c.requires i none c.loop-part-test.true in
    let few = c.loop-part.invariant.few in
    record {
      cells = cells-more c.args.layout.now i c.loop-part.cells none c.loop-part-test.true c.loop-part.invariant.cells;
      few = omega (arith, small, few);
    }
