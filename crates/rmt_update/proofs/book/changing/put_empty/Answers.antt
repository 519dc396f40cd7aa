use Rattle.rmt_update.proofs.ChangesLaws.{change-put}
use Rattle.rmt_update.proofs.book.changing.put_empty.Goals as goal

pub returns : goal.returns
returns c =
    let part = c.args.part.now in
    change-put c.args.changes.now.items _ ((part.stage, part.place), c.args.spot.at.cell) c.args.spot _ _ c.in_ok-push.ensures.items c.empty_write-write.ensures
