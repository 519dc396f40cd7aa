use Rattle.rmt_refine.proofs.ViewLaws.{own_look_law}
use Rattle.rmt_refine.proofs.laws.own_looks.Goals as goal

pub returns : goal.returns
returns c = own_look_law
