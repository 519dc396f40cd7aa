use Rattle.rmt_refine.proofs.EventRunLaws.{events_answered}
use Rattle.rmt_refine.proofs.laws.event_lists.Goals as goal

pub returns : goal.returns
returns c = events_answered
