use Rattle.std.proofs.Common.{ℕ, get_or, ap, sym, ◌∙◌}
use Rattle.rmt_cells.proofs.Walks.{after_more}
use Rattle.rmt_cells.proofs.links.after.Goals as goal

pub loop-preserved : goal.loop-preserved
loop-preserved c =
    ap (λ (cell : ℕ). get_or c.args.links.now cell 0) c.loop.invariant ∙ sym (after_more c.args.links.now c.args.cell c.loop.counter)
