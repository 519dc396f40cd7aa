use Rattle.std.proofs.Common.{◌<◌, subst}
use Rattle.rmt_pack.proofs.ShapeLaws.{exact-of, exact-cells, way-below}
use Rattle.rmt_pack.proofs.spots.place_of.Goals as goal

pub returns-clause-ways : goal.returns-clause-ways
returns-clause-ways c =
    let s = c.args.shape.now in
    let has = exact-of s c.requires.shape c.requires.exact in
    let below = subst (λ n. c.args.cell < n) (exact-cells s c.requires.exact) c.requires.cell in
    way-below c.args.cell s.per s.quanta has.some_per c.requires.shape.some_quanta below
