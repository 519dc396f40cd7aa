use Rattle.std.proofs.Common.{refl, sym, subst, arith}
use Rattle.rmt_bits.proofs.ListLaws.{slice_get-seen}
use Rattle.rmt_update.specs.declared.book.index.TableIndex.{TableIndex}
use Rattle.rmt_update.specs.NextIndex.{IsRenewed}
use Rattle.rmt_update.proofs.NextIndexSteps.{renewed-next}
use Rattle.rmt_update.proofs.book.next_index.renew.Goals as goal

pub loop-index-preserved : goal.loop-index-preserved
loop-index-preserved c =
    let os = c.loop-index.indexes in
    let i = c.loop-index.index-index in
    let m = c.index-item.result in
    let lt = c.loop-index-test.true in
    let long = c.loop-index.auto.indexes in
    renewed-next i c.args.indexes.now os m c.renew_one.new.index c.loop-index.invariant (slice_get-seen os os i m refl (omega (arith, lt, long)) c.index-item.is)
    (subst (λ (o : TableIndex). IsRenewed o c.renew_one.new.index) (sym c.index-item.is) c.renew_one.ensures)
