use Rattle.std.proofs.Common.{◌≡◌, ◌∙◌, sym, ap, get_or, length}
use Rattle.rmt_ast.specs.Places.{lanes_of}
use Rattle.rmt_build.proofs.LaneLaws.{field_there, lanes_at, single}
use Rattle.rmt_build.proofs.lanes.lane_of.Goals as goal

pub returns : goal.returns
returns c =
    let places = c.args.places.now in
    let f = c.args.field in
    let ls = c.index-as_slice-field.result in
    let at : ls ≡ get_or places f ls = c.index-as_slice-field.is ∙ ap (λ xs. get_or xs f ls) c.as_slice.ensures in
    let is : lanes_of places f ≡ c.as_slice-2.result.now = lanes_at places f ls (field_there places f c.requires) at ∙ sym c.as_slice-2.ensures in
    is ∙ single c.as_slice-2.result.now _ (sym (ap length is) ∙ c.requires)
