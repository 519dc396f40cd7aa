use Rattle.rmt_update.specs.Differences.{changes_in}
use Rattle.rmt_update.proofs.PutChanges.{part-put}
use Rattle.rmt_update.proofs.book.differences.put_part.Goals as goal

pub returns : goal.returns
returns c =
    part-put c.args.old.now c.args.new.now (changes_in c.args.changes.now.items) (changes_in c.put_changes.new.changes.items) (changes_in c.put_changes-2.new.changes.items) c.in_ok-put_changes.ensures c.in_ok-put_changes-2.ensures
