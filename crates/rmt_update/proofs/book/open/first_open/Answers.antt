use Rattle.std.proofs.Common.{◌+◌, sym, ◌∙◌}
use Rattle.rmt_update.specs.Open.{is_open}
use Rattle.rmt_update.proofs.OpenLaws.{cell-past}
use Rattle.rmt_update.proofs.book.open.first_open.Goals as goal

pub loop-cell-preserved : goal.loop-cell-preserved
loop-cell-preserved c =
    cell-past (is_open c.args.look.now.odd c.args.look.now.part.now c.args.look.now.given.now) c.loop-cell.cell (c.args.first + c.args.count) c.loop-cell-test.true _ c.loop-cell.invariant (sym c.is_open.ensures ∙ c.if-is_open.false)
