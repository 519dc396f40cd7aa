use Rattle.std.proofs.Common.{◌≡◌}
use Rattle.rmt_update_tests.proofs.commits.told.Goals as goal
use Rattle.rmt_update_tests.proofs.commits.told.Goals.{then-is_change, else-is_change+then-eq, else-is_change+else-eq}

pub loop-line-preserved : goal.loop-line-preserved
loop-line-preserved c =
    elim c.if-is_change.branch [
      | then-is_change w ↦ rw w.lists-is w.change-ok.ensures
      | else-is_change+then-eq w ↦ rw w.lists-is w.commit.ensures
      | else-is_change+else-eq w ↦ rw w.lists-is c.loop-line.invariant
    ]
