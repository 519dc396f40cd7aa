use Rattle.rmt_refine.proofs.RunStateLaws.{states_reached}
use Rattle.rmt_refine.proofs.laws.passed_states.Goals as goal

pub returns : goal.returns
returns c = states_reached
