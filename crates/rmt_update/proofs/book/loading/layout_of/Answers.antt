use Rattle.std.proofs.Common.{◌++◌, ap, sym, ◌∙◌}
use Rattle.rmt_update.specs.Loads.{ways_for}
use Rattle.rmt_update.proofs.SmallLaws.{layout-more}
use Rattle.rmt_update.proofs.book.loading.layout_of.Goals as goal

pub loop-part-preserved : goal.loop-part-preserved
loop-part-preserved c =
    let x = c.part-item.result in
    c.in_ok-put_ways.ensures ∙ ap (λ ws. ws ++ ways_for x.shape.grid) c.loop-part.invariant ∙ sym (layout-more c.args.parts.now c.loop-part.part-index x c.loop-part-test.true c.part-item.is)
