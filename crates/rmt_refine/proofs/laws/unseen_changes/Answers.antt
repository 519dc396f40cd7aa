use Rattle.rmt_refine.proofs.UnseenLaws.{changes_unseen}
use Rattle.rmt_refine.proofs.laws.unseen_changes.Goals as goal

pub returns : goal.returns
returns c = changes_unseen
