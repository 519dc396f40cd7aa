use Rattle.rmt_refine.proofs.OneStateLaws.{one_state}
use Rattle.rmt_refine.proofs.laws.one_state.Goals as goal

pub returns : goal.returns
returns c = one_state
