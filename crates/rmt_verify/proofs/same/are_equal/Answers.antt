use Rattle.std.proofs.lemmas.Slice.Eq.{slice_eq-Decides}
use Rattle.rmt_verify.proofs.same.are_equal.Goals as goal

pub returns : goal.returns
returns g c = slice_eq-Decides c.requires c.args.items.now c.args.others.now c.eq.result c.eq.ensures
