use Rattle.std.proofs.Common.{sym, ◌∙◌}
use Rattle.rmt_filling.proofs.SortingLaws.{rows_more}
use Rattle.rmt_filling.proofs.stands.in_rows.Goals as goal

pub loop-at-preserved : goal.loop-at-preserved
loop-at-preserved c =
    let was = c.loop-at.invariant in
    c.in_ok-push.ensures.ok ∙ rw was (sym (rows_more c.args.sorted.now c.loop-at.at (record { cell = 0; entry = 0 }) c.loop-at-test.true))
