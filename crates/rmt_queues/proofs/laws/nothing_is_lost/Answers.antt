use Rattle.rmt_queues.proofs.CallLaws.{nothing_lost}
use Rattle.rmt_queues.proofs.laws.nothing_is_lost.Goals as goal

pub returns : goal.returns
returns c = nothing_lost
