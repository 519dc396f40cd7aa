use Rattle.std.proofs.Common.{subst, sym}
use Rattle.rmt_chip.proofs.PendingLaws.{AreShort, short_records}
use Rattle.rmt_chip.proofs.operands.keep_writes.Goals as goal

pub compute-requires-clause-few : goal.compute-requires-clause-few
compute-requires-clause-few c =
    subst AreShort (sym c.deref.ensures.value) (short_records c.args.stage.now c.requires.fits c.args.pending.now.looked.items c.requires.room.looked)
