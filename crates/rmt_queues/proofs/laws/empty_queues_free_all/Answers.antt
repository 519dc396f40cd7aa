use Rattle.rmt_queues.proofs.CallLaws.{all_free}
use Rattle.rmt_queues.proofs.laws.empty_queues_free_all.Goals as goal

pub returns : goal.returns
returns c = all_free
