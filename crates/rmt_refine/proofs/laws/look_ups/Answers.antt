use Rattle.rmt_refine.proofs.TheLaw.{look_up_law}
use Rattle.rmt_refine.proofs.laws.look_ups.Goals as goal

pub returns : goal.returns
returns c = look_up_law
