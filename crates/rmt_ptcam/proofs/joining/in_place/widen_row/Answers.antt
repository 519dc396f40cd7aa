use Rattle.std.proofs.Common.{ap, sym, ◌∙◌}
use Rattle.rmt_ptcam.specs.Types.{ParserEntry}
use Rattle.rmt_ptcam.specs.Joining.{Row}
use Rattle.rmt_ptcam.specs.Words.{spread}
use Rattle.rmt_ptcam.proofs.TestLaws.{widened_is}
use Rattle.rmt_ptcam.proofs.joining.in_place.widen_row.Goals as goal

pub returns : goal.returns
returns c =
    let x : Row = c.args.row.now in
    let from = c.args.from.now in
    let to = c.args.to.now in
    ap (λ v. record x { entry = record x.entry { value = v; mask = c.spread-row-2.result } }) c.spread-row.ensures
    ∙ ap (λ m. record x { entry = record x.entry { value = spread from to x.entry.value; mask = m } }) c.spread-row-2.ensures
    ∙ ap (λ (e : ParserEntry). record x { entry = e }) (sym (widened_is from to x.entry))
