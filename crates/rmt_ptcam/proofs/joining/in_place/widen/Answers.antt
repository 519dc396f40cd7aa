use Rattle.std.proofs.Common.{ap, sym, ◌∙◌}
use Rattle.std.specs.Prelude.{slice_set}
use Rattle.std.proofs.lemmas.List.Edits.{map_over_more}
use Rattle.rmt_ptcam.specs.Grouping.{widened_row}
use Rattle.rmt_ptcam.specs.Joining.{Row}
use Rattle.rmt_ptcam.proofs.joining.in_place.widen.Goals as goal

pub loop-row-preserved : goal.loop-row-preserved
loop-row-preserved c =
    let l = c.loop-row in
    ap (λ (x : Row). slice_set l.rows l.row-index x) (c.widen_row.ensures ∙ ap (widened_row c.args.from.now c.args.to.now) (sym c.row-item.is))
    ∙ map_over_more (widened_row c.args.from.now c.args.to.now) c.args.rows.now l.rows l.row-index c.row-item.result c.loop-row-test.true l.invariant c.row-item.is
