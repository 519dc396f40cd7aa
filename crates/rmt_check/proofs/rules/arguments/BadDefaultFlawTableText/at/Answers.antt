use Rattle.std.proofs.Common.{List, ◌==◌, ap, ap₂, ◌∙◌, length, not, zip}
use Rattle.std.specs.List.{flat_map}
use Rattle.rmt_check.specs.Parts.{Declared, Number, Position}
use Rattle.rmt_check.specs.Names.{params_of}
use Rattle.rmt_check.specs.Rules.{earliest, too_wide, when}
use Rattle.rmt_check.proofs.rules.arguments.BadDefaultFlawTableText.at.Goals as goal

pub returns : goal.returns
returns g c =
    let t = c.args.table.now in
    let all = params_of (g.N.Lookup.text c.args.names.now) t.default.name in
    let count : List Declared → List Number → List Position = λ ps ns. when (not (length ps == length ns)) t.default.place in
    let widths : List Declared → List Number → List Position = λ ps ns. flat_map (λ (x : Declared × Number). too_wide x.0.width.value x.1) (zip ps ns) in
    let params = c.params-params.ensures ∙ ap (params_of (g.N.Lookup.text c.args.names.now)) c.as_slice.ensures in
    c.earlier.ensures.joined (count all t.args) (widths all t.args)
    (c.place_when.ensures ∙ ap₂ (λ ps ns. earliest (count ps ns)) params c.as_slice-args.ensures)
    (c.earliest_beside.ensures ∙ ap₂ (λ ps ns. earliest (widths ps ns)) params c.as_slice-args.ensures)
